-- Laws of items that stand one behind the other, of whatever kind; pairs and keys as entries. Assumes nothing.
use mathlib.Core.Path.{◌≡◌, refl, sym, ap, ap₂, ◌∙◌}
use mathlib.Core.List.{List, [], ◌∷◌, ◌++◌}
use Prim.Native.Nat.{ℕ, zero, suc, ◌+◌, ◌*◌, ◌-◌, ◌≤◌, ◌<◌}
use native.Mathlib.Nat.{le_refl, le_trans, mul-suc, add_comm, zero-add, suc-add, mul-zero}
use native.Mathlib.Omega.{arith}
use lib.ListN.{length}
use Rattle.format.specs.Serialize.{Part, images}
use Rattle.format.specs.Fields.{pair_places, key_places}
use Rattle.format.specs.Places.{items_here, items_end, entry_here, entry_end, entries_here, entries_end, pair_here, pair_end, key_here, key_end}

pub one_less : (n i : ℕ) → i < n → n - i ≡ suc (n - (i + 1))
one_less n i h = omega arith

-- where they end
module _ (end : List ℕ → ℕ → ℕ) (m : List ℕ) where
  pub reach : ((s : ℕ) → s ≤ end m s) → (n s : ℕ) → s ≤ items_end end m n s
  unfolding items_end
  reach h zero s = le_refl _
  reach h (suc n) s = le_trans (h s) (reach h n (end m s))

  pub end_snoc : (i s : ℕ) → items_end end m (suc i) s ≡ end m (items_end end m i s)
  unfolding items_end
  end_snoc zero s = refl
  end_snoc (suc i) s = end_snoc i (end m s)

  pub end_step : (n i s : ℕ) → i < n → items_end end m (n - i) s ≡ items_end end m (n - (i + 1)) (end m s)
  unfolding items_end
  end_step n i s h = rw (one_less n i h)

  pub end_join : (k j s : ℕ) → items_end end m (k + j) s ≡ items_end end m j (items_end end m k s)
  unfolding items_end
  end_join zero j s = ap (λ (n : ℕ). items_end end m n s) (zero-add j)
  end_join (suc k) j s = ap (λ (n : ℕ). items_end end m n s) (suc-add k j) ∙ end_join k j (end m s)

-- what they are
module _ {A : Type 0} (here : List ℕ → ℕ → A) (end : List ℕ → ℕ → ℕ) (m : List ℕ) where
  pub here_length : (n s : ℕ) → length (items_here here end m n s) ≡ n
  unfolding items_here
  here_length zero s = refl
  here_length (suc n) s = ap suc (here_length n (end m s))

  pub here_snoc : (i s : ℕ) → items_here here end m (suc i) s ≡ items_here here end m i s ++ (here m (items_end end m i s) ∷ [])
  unfolding items_here items_end
  here_snoc zero s = refl
  here_snoc (suc i) s = ap (λ (l : List A). here m s ∷ l) (here_snoc i (end m s))

  pub here_step : (n i s : ℕ) → i < n → items_here here end m (n - i) s ≡ here m s ∷ items_here here end m (n - (i + 1)) (end m s)
  unfolding items_here
  here_step n i s h = rw (one_less n i h)

  here_join : (k j s : ℕ) → items_here here end m (k + j) s ≡ items_here here end m k s ++ items_here here end m j (items_end end m k s)
  unfolding items_here items_end
  here_join zero j s = ap (λ (n : ℕ). items_here here end m n s) (zero-add j)
  here_join (suc k) j s = ap (λ (n : ℕ). items_here here end m n s) (suc-add k j) ∙ ap (λ (l : List A). here m s ∷ l) (here_join k j (end m s))

-- n items of k entries each are k times n entries
times : (k n : ℕ) → k * suc n ≡ k + k * n
times k n = mul-suc k n ∙ add_comm (k * n) k

pub record Made {A : Type 0} (here : List ℕ → ℕ → A) (end : List ℕ → ℕ → ℕ) (places : A → List Part) (k : ℕ) : Type 0 where
  pub ends : (m : List ℕ) (s : ℕ) → end m s ≡ entries_end m k s
  pub are : (m : List ℕ) (s : ℕ) → places (here m s) ≡ entries_here m k s

module _ {A : Type 0} {here : List ℕ → ℕ → A} {end : List ℕ → ℕ → ℕ} {places : A → List Part} {k : ℕ} (made : Made here end places k) (m : List ℕ) where
  pub end_entries : (n s : ℕ) → items_end end m n s ≡ entries_end m (k * n) s
  unfolding items_end
  end_entries zero s = sym (ap (λ (i : ℕ). entries_end m i s) (mul-zero k))
  end_entries (suc n) s = ap (items_end end m n) (made.ends m s) ∙ end_entries n (entries_end m k s) ∙ sym (ap (λ (i : ℕ). entries_end m i s) (times k n) ∙ end_join entry_end m k (k * n) s)

  pub here_entries : (n s : ℕ) → images places (items_here here end m n s) ≡ entries_here m (k * n) s
  unfolding items_here images
  here_entries zero s = sym (ap (λ (i : ℕ). entries_here m i s) (mul-zero k))
  here_entries (suc n) s =
      ap₂ ◌++◌ (made.are m s) (ap (λ (t : ℕ). images places (items_here here end m n t)) (made.ends m s) ∙ here_entries n (entries_end m k s))
      ∙ sym (ap (λ (i : ℕ). entries_here m i s) (times k n) ∙ here_join entry_here entry_end m k (k * n) s)

pub pairs_made : Made pair_here pair_end pair_places 2
unfolding items_end items_here
pairs_made = record { ends = λ m s. refl; are = λ m s. refl }

pub keys_made : Made key_here key_end key_places 3
unfolding items_end items_here
keys_made = record { ends = λ m s. refl; are = λ m s. refl }
