-- The keys of a draft with those of a provider ID taken out, and with one behind them. Assumes nothing.
use mathlib.Core.Path.{◌≡◌, refl, sym, ap, ◌∙◌}
use mathlib.Core.Logic.{inl, inr}
use mathlib.Core.Bool.{Bool, true, false, cond}
use mathlib.Core.List.{List, [], ◌∷◌, ◌++◌, Memᴰ}
use Prim.Native.Nat.{ℕ, ◌≤◌}
use native.Mathlib.Omega.{arith}
use lib.ListN.{length, length-append}
use Rattle.format.specs.Serialize.{images, same_bytes}
use Rattle.format.specs.Fields.{EncryptedDataKey}
use Rattle.format.specs.Keys.{write_encrypted_data_key}
use Rattle.format.specs.Mending.{without_provider}
use Rattle.format.specs.Mended.{TakenOut, none_there, goes, stays, Absent}
use Rattle.format.specs.Arrangement.{AllHave, AllHaveEither}
use Rattle.format.proofs.Tests.{never}
use Rattle.format.proofs.Exact.{Oks}
use Rattle.format.proofs.Keys.{KeyOk}
use Rattle.format.proofs.Find.{same_equal, equal_same}
use Rattle.format.proofs.LeftOut.{LeavesOut}

-- an ID that is another is not the same bytes
differs : (a b : List ℕ) → (a ≡ b → ⊥) → same_bytes a b ≡ false
differs a b h = by (same_bytes a b) refl
  where
    by : (x : Bool) → same_bytes a b ≡ x → same_bytes a b ≡ false
    by true e = absurd (h (same_equal a b e))
    by false e = e

pub same : (a b : List ℕ) → a ≡ b → same_bytes a b ≡ true
same a b e = rw (← e) (equal_same a)

module _ (id : List ℕ) where
  pub taken_out : (ks : List EncryptedDataKey) → TakenOut id ks (without_provider id ks)
  unfolding without_provider
  taken_out [] = none_there
  taken_out (k ∷ ks) = by (same_bytes id k.keyProviderId) refl (taken_out ks)
    where
      by : (x : Bool) → same_bytes id k.keyProviderId ≡ x → TakenOut id ks (without_provider id ks) → TakenOut id (k ∷ ks) (cond x (without_provider id ks) (k ∷ without_provider id ks))
      by true e h = goes (same_equal id k.keyProviderId e) h
      by false e h = stays (λ z. never (same id k.keyProviderId z) e) h

  pub none_of_it : {ks js : List EncryptedDataKey} → TakenOut id ks js → Absent id js
  none_of_it none_there = tt
  none_of_it (goes e h) = none_of_it h
  none_of_it (stays d h) = (d, none_of_it h)

  -- where no key has the ID, none goes
  pub all_stay : (ks : List EncryptedDataKey) → Absent id ks → without_provider id ks ≡ ks
  unfolding without_provider
  all_stay [] h = refl
  all_stay (k ∷ ks) (d, h) = rw (differs id k.keyProviderId d, all_stay ks h) refl

  pub leaves_out : LeavesOut (λ (k : EncryptedDataKey). same_bytes id k.keyProviderId) (without_provider id)
  unfolding without_provider
  leaves_out = record { none = refl; more = λ k ks. refl }

  -- what is left is no more, and takes no more bytes
  pub fewer : {ks js : List EncryptedDataKey} → TakenOut id ks js → length js ≤ length ks
  fewer none_there = omega arith
  fewer (goes e h) = let z = fewer h in omega arith
  fewer (stays d h) = let z = fewer h in omega arith

  pub shorter : {ks js : List EncryptedDataKey} → TakenOut id ks js → length (images write_encrypted_data_key js) ≤ length (images write_encrypted_data_key ks)
  unfolding images
  shorter none_there = omega arith
  shorter (goes e h) = rw length-append (let z = shorter h in omega arith)
  shorter (stays d h) = simp length-append (let z = shorter h in omega arith)

  -- and is as good as it was
  pub good_stay : (acc acc' : List EncryptedDataKey) {ks js : List EncryptedDataKey} → TakenOut id ks js → Oks KeyOk acc ks → Oks KeyOk acc' js
  good_stay acc acc' none_there o = tt
  good_stay acc acc' (goes e h) (o, os) = good_stay _ acc' h os
  good_stay acc acc' (stays d h) (o, os) = (record { provider = o.provider; info = o.info; cipher = o.cipher }, good_stay _ _ h os)

-- a key behind others
pub good_behind : (acc : List EncryptedDataKey) (k : EncryptedDataKey) (ks : List EncryptedDataKey) → Oks KeyOk acc ks → KeyOk [] k → Oks KeyOk acc (ks ++ (k ∷ []))
good_behind acc k [] os o = (record { provider = o.provider; info = o.info; cipher = o.cipher }, tt)
good_behind acc k (j ∷ ks) (p, os) o = (p, good_behind (acc ++ (j ∷ [])) k ks os o)

-- a key with another ID is left
pub left_in : {id : List ℕ} {ks js : List EncryptedDataKey} → TakenOut id ks js → {k : EncryptedDataKey} → Memᴰ k ks → (id ≡ k.keyProviderId → ⊥) → Memᴰ k js
left_in {id = id} none_there {k = k} x7 d = elim x7 [ ]
left_in (goes e h) (Memᴰ.head i) d = absurd (d (e ∙ sym (ap (λ (x : EncryptedDataKey). x.keyProviderId) i)))
left_in (goes e h) (Memᴰ.tail m) d = left_in h m d
left_in (stays n h) (Memᴰ.head i) d = Memᴰ.head i
left_in (stays n h) (Memᴰ.tail m) d = Memᴰ.tail (left_in h m d)

-- none is left just where all have the ID
pub all_gone : {id : List ℕ} {ks js : List EncryptedDataKey} → TakenOut id ks js → AllHave id ks → js ≡ []
all_gone none_there a = refl
all_gone (goes e h) (x, a) = all_gone h a
all_gone (stays d h) (x, a) = absurd (d x)

pub gone : {id : List ℕ} {ks js : List EncryptedDataKey} → TakenOut id ks js → js ≡ [] → AllHave id ks
gone none_there e = tt
gone (goes x h) e = (x, gone h e)
gone (stays d h) e = let z : ◌≡◌ {A = ℕ} 0 1 = cc in absurd (omega arith)

-- of keys that have one ID or the other, those with the other are left
pub other_left : {p : List ℕ} (q : List ℕ) {ks js : List EncryptedDataKey} → TakenOut p ks js → AllHaveEither p q ks → AllHave q js
other_left q none_there a = tt
other_left q (goes e h) (x, a) = other_left q h a
other_left q (stays d h) (inl x, a) = absurd (d x)
other_left q (stays d h) (inr x, a) = (x, other_left q h a)
