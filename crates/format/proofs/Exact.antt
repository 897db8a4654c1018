-- A reader is exact for a way of writing when it accepts just the bytes that are written for some good value, and gives that value
-- as it is placed there. The judgement composes: sequence, test, counted repetition. Assumes nothing.
use mathlib.Core.Path.{◌≡◌, refl, sym, ap, ◌∙◌}
use mathlib.Core.Bool.{Bool, true, false}
use mathlib.Core.List.{List, [], ◌∷◌, ◌++◌, append_assoc, append-nil, map, map-append}
use Prim.Native.Nat.{ℕ, zero, suc, ◌+◌, ◌≤◌, ◌<◌}
use native.Mathlib.Omega.{arith}
use native.Mathlib.Nat.{add_assoc, add-zero}
use lib.Dec.{leb, eqb}
use lib.ListN.{length, length-append}
use Rattle.format.specs.Read.{ReadResult, success, more_needed, error, Reader, go_on, ◌>>=◌, ◌>>◌, return, test, End, no_end, end_at, held, repeat, enclosed}
use Rattle.format.specs.Serialize.{Bytes, images}
use Rattle.format.proofs.Tests.{leb_is, nleb_is, is_leb, is_nleb, eqb_is, is_eqb}

pub bytes_right : (b l : List ℕ) → Bytes (b ++ l) → Bytes l
bytes_right [] l h = h
bytes_right (x ∷ b) l (p, h) = bytes_right b l h

pub bytes_left : (b l : List ℕ) → Bytes (b ++ l) → Bytes b
bytes_left [] l h = tt
bytes_left (x ∷ b) l (p, h) = (p, bytes_left b l h)

-- from l at s the reader took the image of a good value, which placed there is a, and left l' at t
pub record Took {A W : Type 0} (ok : W → Type 0) (img : W → List ℕ) (put : ℕ → W → A) (l : List ℕ) (s : ℕ) (a : A) (l' : List ℕ) (t : ℕ) : Type 0 where
  pub value : W
  pub good : ok value
  pub split : l ≡ img value ++ l'
  pub tail : t ≡ s + length (img value)
  pub placed : a ≡ put s value

-- sound: what is accepted is what is written for a good value. complete: what is written for one is read back, whatever follows.
pub record Exact {A W : Type 0} (r : Reader A) (ok : W → Type 0) (img : W → List ℕ) (put : ℕ → W → A) : Type 0 where
  pub sound : (l : List ℕ) (s : ℕ) (a : A) (l' : List ℕ) (t : ℕ) → Bytes l → r l s ≡ success a l' t → Took ok img put l s a l' t
  pub complete : (w : W) (s : ℕ) (l : List ℕ) → ok w → r (img w ++ l) s ≡ success (put s w) l (s + length (img w))

-- a refusal is no success
module _ {A : Type 0} where
  pub more_is_no_success : {C : Type 0} {p : ℕ} {a : A} {l : List ℕ} {t : ℕ} → ◌≡◌ {A = ReadResult A} (more_needed p) (success a l t) → C
  more_is_no_success e = let z : ◌≡◌ {A = ℕ} 0 1 = cc in absurd (omega arith)

  pub error_is_no_success : {C : Type 0} {k : ℕ} {a : A} {l : List ℕ} {t : ℕ} → ◌≡◌ {A = ReadResult A} (error k) (success a l t) → C
  error_is_no_success e = let z : ◌≡◌ {A = ℕ} 0 1 = cc in absurd (omega arith)

-- one thing and then another, which may depend on it and may count on its being good
module _ {A B W X : Type 0} where
  pub seq_exact_if : {r : Reader A} (f : A → Reader B) {ok₁ : W → Type 0} {img₁ : W → List ℕ} {put₁ : ℕ → W → A} {ok₂ : W → X → Type 0} {img₂ : W → X → List ℕ} {put₂ : ℕ → W → ℕ → X → B}
      → Exact r ok₁ img₁ put₁ → ((s : ℕ) (w : W) → ok₁ w → Exact (f (put₁ s w)) (ok₂ w) (img₂ w) (put₂ s w))
      → Exact (r >>= f) (λ (x : W × X). ok₁ x.0 × ok₂ x.0 x.1) (λ (x : W × X). img₁ x.0 ++ img₂ x.0 x.1) (λ s (x : W × X). put₂ s x.0 (s + length (img₁ x.0)) x.1)
  unfolding ◌>>=◌
  seq_exact_if {r} f {ok₁} {img₁} {put₁} {ok₂} {img₂} {put₂} hr hf = record { sound = λ l s c l' t hb. go l s c l' t hb (r l s) refl; complete = back }
    where
      Both : List ℕ → ℕ → B → List ℕ → ℕ → Type 0
      Both = Took (λ (x : W × X). ok₁ x.0 × ok₂ x.0 x.1) (λ (x : W × X). img₁ x.0 ++ img₂ x.0 x.1) (λ s (x : W × X). put₂ s x.0 (s + length (img₁ x.0)) x.1)

      join : (l : List ℕ) (s : ℕ) (c : B) (l' : List ℕ) (t : ℕ) (a : A) (l₁ : List ℕ) (t₁ : ℕ) (x : Took ok₁ img₁ put₁ l s a l₁ t₁)
          → Took (ok₂ x.value) (img₂ x.value) (put₂ s x.value) l₁ t₁ c l' t → Both l s c l' t
      join l s c l' t a l₁ t₁ x y =
          record {
            value = (x.value, y.value);
            good = (x.good, y.good);
            split = rw (x.split, y.split, append_assoc) refl;
            tail = rw (y.tail, x.tail, length-append, add_assoc) refl;
            placed = rw (y.placed, x.tail) refl;
          }

      go : (l : List ℕ) (s : ℕ) (c : B) (l' : List ℕ) (t : ℕ) → Bytes l → (x : ReadResult A) → r l s ≡ x → go_on x f ≡ success c l' t → Both l s c l' t
      go l s c l' t hb (success a l₁ t₁) e₁ e₂ =
          let x : Took ok₁ img₁ put₁ l s a l₁ t₁ = hr.sound l s a l₁ t₁ hb e₁ in
          join l s c l' t a l₁ t₁ x ((hf s x.value x.good).sound l₁ t₁ c l' t (bytes_right (img₁ x.value) l₁ (rw x.split at hb)) (rw x.placed at e₂))
      go l s c l' t hb (more_needed p) e₁ e₂ = more_is_no_success e₂
      go l s c l' t hb (error k) e₁ e₂ = error_is_no_success e₂

      back : (x : W × X) (s : ℕ) (l : List ℕ) → ok₁ x.0 × ok₂ x.0 x.1
          → (r >>= f) ((img₁ x.0 ++ img₂ x.0 x.1) ++ l) s ≡ success (put₂ s x.0 (s + length (img₁ x.0)) x.1) l (s + length (img₁ x.0 ++ img₂ x.0 x.1))
      back (w, v) s l (o, p) =
          rw (
            append_assoc (img₁ w) (img₂ w v) l,
            hr.complete w s (img₂ w v ++ l) o,
            (hf s w o).complete v (s + length (img₁ w)) l p,
            length-append (img₁ w) (img₂ w v),
            add_assoc,
          )

module _ {A B W X : Type 0} where
  pub seq_exact : {r : Reader A} (f : A → Reader B) {ok₁ : W → Type 0} {img₁ : W → List ℕ} {put₁ : ℕ → W → A} {ok₂ : W → X → Type 0} {img₂ : W → X → List ℕ} {put₂ : ℕ → W → ℕ → X → B}
      → Exact r ok₁ img₁ put₁ → ((s : ℕ) (w : W) → Exact (f (put₁ s w)) (ok₂ w) (img₂ w) (put₂ s w))
      → Exact (r >>= f) (λ (x : W × X). ok₁ x.0 × ok₂ x.0 x.1) (λ (x : W × X). img₁ x.0 ++ img₂ x.0 x.1) (λ s (x : W × X). put₂ s x.0 (s + length (img₁ x.0)) x.1)
  seq_exact f hr hf = seq_exact_if f hr (λ s w o. hf s w)

-- a test
module _ {A W : Type 0} where
  -- that of an end which is none
  pub free_exact : (n : ℕ) {q : Reader A} {ok : W → Type 0} {img : W → List ℕ} {put : ℕ → W → A} → Exact q ok img put → Exact (held no_end n >> q) ok img put
  unfolding held test ◌>>◌
  free_exact n h = record { sound = h.sound; complete = h.complete }

  pub check_exact : (k : ℕ) (b : Bool) {q : Reader A} {ok : W → Type 0} {img : W → List ℕ} {put : ℕ → W → A} → Exact q ok img put
      → Exact (test k b >> q) (λ w. (b ≡ true) × ok w) img put
  unfolding test ◌>>◌
  check_exact k true {q} {ok} {img} {put} h =
      record {
        sound = λ l s a l' t hb e. let x : Took ok img put l s a l' t = h.sound l s a l' t hb e in
            record { value = x.value; good = (refl, x.good); split = x.split; tail = x.tail; placed = x.placed };
        complete = λ w s l o. h.complete w s l o.1;
      }
  check_exact k false h =
      record {
        sound = λ l s a l' t hb e. error_is_no_success e;
        complete = λ w s l o. let p : false ≡ true = o.0 in let z : ◌≡◌ {A = ℕ} 0 1 = cc in absurd (omega arith);
      }

  -- the test under another name
  pub check_as : (k : ℕ) {b : Bool} (b' : Bool) → b ≡ b' → {q : Reader A} {ok : W → Type 0} {img : W → List ℕ} {put : ℕ → W → A} → Exact q ok img put
      → Exact (test k b >> q) (λ w. (b' ≡ true) × ok w) img put
  check_as k b' e h = rw e (check_exact k b' h)

pub give_exact : {A : Type 0} (x : A) → Exact (return x) (λ (u : Unit {0}). Unit {0}) (λ u. []) (λ s u. x)
unfolding return
give_exact x =
    record {
      sound = λ l s a l' t hb e. record { value = tt; good = tt; split = cc; tail = rw (add-zero s) (cc); placed = cc };
      complete = λ w s l o. rw add-zero refl;
    }

-- the same reader over another type of values
module _ {A W X : Type 0} where
  pub revalue_bytes : {r : Reader A} {ok : W → Type 0} {img : W → List ℕ} {put : ℕ → W → A} (ok' : X → Type 0) (img' : X → List ℕ) (put' : ℕ → X → A) → Exact r ok img put
      → ((w : W) → ok w → Bytes (img w) → (x : X) × ok' x × (img w ≡ img' x) × ((s : ℕ) → put s w ≡ put' s x))
      → ((x : X) → ok' x → (w : W) × ok w × (img' x ≡ img w) × ((s : ℕ) → put' s x ≡ put s w)) → Exact r ok' img' put'
  revalue_bytes {r} {ok} {img} {put} ok' img' put' h f g =
      record {
        sound = λ l s a l' t hb e. let x : Took ok img put l s a l' t = h.sound l s a l' t hb e in
            let y = f x.value x.good (bytes_left (img x.value) l' (rw x.split at hb)) in
            record {
              value = y.0;
              good = y.1;
              split = x.split ∙ ap (λ b. b ++ l') y.2;
              tail = x.tail ∙ ap (λ b. s + length b) y.2;
              placed = x.placed ∙ y.3 s;
            };
        complete = λ x s l o. let y = g x o in rw (y.2, y.3 s) (h.complete y.0 s l y.1);
      }

  pub revalue : {r : Reader A} {ok : W → Type 0} {img : W → List ℕ} {put : ℕ → W → A} (ok' : X → Type 0) (img' : X → List ℕ) (put' : ℕ → X → A) → Exact r ok img put
      → ((w : W) → ok w → (x : X) × ok' x × (img w ≡ img' x) × ((s : ℕ) → put s w ≡ put' s x))
      → ((x : X) → ok' x → (w : W) × ok w × (img' x ≡ img w) × ((s : ℕ) → put' s x ≡ put s w)) → Exact r ok' img' put'
  revalue ok' img' put' h f g = revalue_bytes ok' img' put' h (λ w o hb. f w o) g

-- there is no end; or the next n bytes end at e or before, or past it
pub held_free : {A : Type 0} (n : ℕ) (q : Reader A) (l : List ℕ) (s : ℕ) → (held no_end n >> q) l s ≡ q l s
unfolding held test ◌>>◌
held_free n q l s = refl

module _ {A : Type 0} (e n : ℕ) (q : Reader A) (l : List ℕ) (s : ℕ) where
  pub held_fits : s + n ≤ e → (held (end_at e) n >> q) l s ≡ q l s
  unfolding held test ◌>>◌
  held_fits h = rw (nleb_is (suc e) (s + n) (omega arith)) refl

  pub held_past : e < s + n → (held (end_at e) n >> q) l s ≡ error 32
  unfolding held test ◌>>◌
  held_past h = rw (leb_is (suc e) (s + n) (omega arith)) refl

-- n bytes that are there as a whole, and a reader that ends where they do
module _ {A : Type 0} where
  pub enclosed_fits : (n k : ℕ) (r : End → Reader A) (l : List ℕ) (s : ℕ) → n ≤ length l
      → enclosed n k r l s ≡ (r (end_at (s + n)) >>= λ a l' t. go_on (test k (eqb t (s + n)) l' t) (λ u. return a)) l s
  unfolding enclosed
  enclosed_fits n k r l s h = rw (leb_is n (length l) h, enclosed)

  pub enclosed_short : (n k : ℕ) (r : End → Reader A) (l : List ℕ) (s : ℕ) → length l < n → enclosed n k r l s ≡ more_needed (s + n)
  unfolding enclosed
  enclosed_short n k r l s h = rw (nleb_is n (length l) h, enclosed)

module _ {A W : Type 0} where
  enclosed_sound : (n k : ℕ) (r : End → Reader A) (ok : W → Type 0) (img : W → List ℕ) (put : ℕ → W → A) → ((e : End) → Exact (r e) ok img put) → (l : List ℕ) (s : ℕ) (a : A) (l' : List ℕ) (t : ℕ) → Bytes l
      → enclosed n k r l s ≡ success a l' t → Took (λ w. ok w × (length (img w) ≡ n)) img put l s a l' t
  unfolding ◌>>=◌ test return
  enclosed_sound n k r ok img put hr l s a l' t hb e = go (leb n (length l)) refl
    where
      last : (a₁ : A) (l₁ : List ℕ) (t₁ : ℕ) → Took ok img put l s a₁ l₁ t₁ → (b : Bool) → eqb t₁ (s + n) ≡ b → go_on (test k b l₁ t₁) (λ u. return a₁) ≡ success a l' t
          → Took (λ w. ok w × (length (img w) ≡ n)) img put l s a l' t
      last a₁ l₁ t₁ x true h q =
          let p₁ : a₁ ≡ a = cc in
          let p₂ : l₁ ≡ l' = cc in
          let p₃ : t₁ ≡ t = cc in
          let p₄ : t₁ ≡ s + n = is_eqb t₁ (s + n) h in
          let p₅ : t₁ ≡ s + length (img x.value) = x.tail in
          record { value = x.value; good = (x.good, omega arith); split = rw (← p₂) x.split; tail = cc; placed = rw (← p₁) x.placed }
      last a₁ l₁ t₁ x false h q = error_is_no_success q

      mid : (x : ReadResult A) → r (end_at (s + n)) l s ≡ x → go_on x (λ a l' t. go_on (test k (eqb t (s + n)) l' t) (λ u. return a)) ≡ success a l' t
          → Took (λ w. ok w × (length (img w) ≡ n)) img put l s a l' t
      mid (success a₁ l₁ t₁) e₁ e₂ = last a₁ l₁ t₁ ((hr (end_at (s + n))).sound l s a₁ l₁ t₁ hb e₁) (eqb t₁ (s + n)) refl e₂
      mid (more_needed p) e₁ e₂ = more_is_no_success e₂
      mid (error p) e₁ e₂ = error_is_no_success e₂

      go : (b : Bool) → leb n (length l) ≡ b → Took (λ w. ok w × (length (img w) ≡ n)) img put l s a l' t
      go true h = mid (r (end_at (s + n)) l s) refl (sym (enclosed_fits n k r l s (is_leb n (length l) h)) ∙ e)
      go false h = more_is_no_success (sym (enclosed_short n k r l s (is_nleb n (length l) h)) ∙ e)

  pub enclosed_exact : (n k : ℕ) {r : End → Reader A} {ok : W → Type 0} {img : W → List ℕ} {put : ℕ → W → A} → ((e : End) → Exact (r e) ok img put)
      → Exact (enclosed n k r) (λ w. ok w × (length (img w) ≡ n)) img put
  unfolding ◌>>=◌ test return
  enclosed_exact n k {r} {ok} {img} {put} hr =
      record {
        sound = enclosed_sound n k r ok img put hr;
        complete = λ w s l o.
            let d : length (img w) ≡ n = o.1 in
            rw (
              enclosed_fits n k r (img w ++ l) s (simp length-append (omega arith)),
              (hr (end_at (s + n))).complete w s l o.0,
              eqb_is (s + length (img w)) (s + n) (omega arith),
            )
            refl;
      }

-- a counted repetition, where what is good may depend on the values before
abbrev pub Oks : {W : Type 0} → (List W → W → Type 0) → List W → List W → Type 0
Oks ok acc [] = Unit {0}
Oks ok acc (w ∷ ws) = ok acc w × Oks ok (acc ++ (w ∷ [])) ws

unfoldable pub puts : {A W : Type 0} → (W → List ℕ) → (ℕ → W → A) → ℕ → List W → List A
puts img put s [] = []
puts img put s (w ∷ ws) = put s w ∷ puts img put (s + length (img w)) ws

abbrev pub Counted : {W : Type 0} → (List W → W → Type 0) → ℕ → List W → List W → Type 0
Counted ok n acc ws = (length ws ≡ n) × Oks ok acc ws

module _ {A W : Type 0} (ok : List W → W → Type 0) (img : W → List ℕ) (put : ℕ → W → A) where
  pub many_exact : (val : A → W) → ((s : ℕ) (w : W) → val (put s w) ≡ w) → (step : List A → Reader A) → ((acc : List A) → Exact (step acc) (ok (map val acc)) img put)
      → (n : ℕ) (acc : List A) → Exact (repeat n step acc) (Counted ok n (map val acc)) (images img) (λ s ws. acc ++ puts img put s ws)
  unfolding repeat images puts
  many_exact val same step h zero acc =
      revalue (Counted ok zero (map val acc)) (images img) (λ s ws. acc ++ puts img put s ws) (give_exact acc)
      (λ w o. ([], (refl, tt), refl, λ s. sym (append-nil acc)))
      none
    where
      none : (ws : List W) → Counted ok zero (map val acc) ws → (w : Unit {0}) × Unit {0} × (images img ws ≡ []) × ((s : ℕ) → acc ++ puts img put s ws ≡ acc)
      none [] o = (tt, tt, refl, λ s. append-nil acc)
      none (w ∷ ws) (e, o) = absurd (omega arith)
  many_exact val same step h (suc n) acc =
      revalue (Counted ok (suc n) (map val acc)) (images img) (λ s ws. acc ++ puts img put s ws)
      (seq_exact _ (h acc) λ s w. rest s w (many_exact val same step h n (acc ++ (put s w ∷ []))))
      (λ x o. (x.0 ∷ x.1, (ap suc o.1.0, (o.0, o.1.1)), refl, λ s. append_assoc acc _ _))
      some
    where
      rest : (s : ℕ) (w : W) → Exact (repeat n step (acc ++ (put s w ∷ []))) (Counted ok n (map val (acc ++ (put s w ∷ [])))) (images img) (λ t ws. (acc ++ (put s w ∷ [])) ++ puts img put t ws)
          → Exact (repeat n step (acc ++ (put s w ∷ []))) (Counted ok n (map val acc ++ (w ∷ []))) (images img) (λ t ws. (acc ++ (put s w ∷ [])) ++ puts img put t ws)
      rest s w z = rw (map-append val acc (put s w ∷ []), same s w) at z

      some : (ws : List W) → Counted ok (suc n) (map val acc) ws
          → (x : W × List W) × (ok (map val acc) x.0 × Counted ok n (map val acc ++ (x.0 ∷ [])) x.1) × (images img ws ≡ img x.0 ++ images img x.1)
          × ((s : ℕ) → acc ++ puts img put s ws ≡ (acc ++ (put s x.0 ∷ [])) ++ puts img put (s + length (img x.0)) x.1)
      some [] (e, o) = absurd (omega arith)
      some (w ∷ ws) (e, o) = ((w, ws), (o.0, (omega arith, o.1)), refl, λ s. sym (append_assoc acc _ _))

-- what a placed list has
module _ {A W : Type 0} (img : W → List ℕ) (put : ℕ → W → A) where
  pub length_puts : (s : ℕ) (ws : List W) → length (puts img put s ws) ≡ length ws
  unfolding puts
  length_puts s [] = refl
  length_puts s (w ∷ ws) = ap suc (length_puts (s + length (img w)) ws)

  pub map_puts : (val : A → W) → ((s : ℕ) (w : W) → val (put s w) ≡ w) → (s : ℕ) (ws : List W) → map val (puts img put s ws) ≡ ws
  unfolding puts
  map_puts val h s [] = refl
  map_puts val h s (w ∷ ws) = rw (h s w, map_puts val h (s + length (img w)) ws) refl
