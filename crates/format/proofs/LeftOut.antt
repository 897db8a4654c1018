-- Items that a test leaves out of any list: of lists joined, and by two tests, whichever comes first. Assumes nothing.
use mathlib.Core.Path.{◌≡◌, refl, sym, ap, ◌∙◌}
use mathlib.Core.Bool.{Bool, true, false, cond}
use mathlib.Core.List.{List, [], ◌∷◌, ◌++◌}

-- what is left of a list is worked out item by item
pub record LeavesOut {A : Type 0} (test : A → Bool) (left : List A → List A) : Type 0 where
  pub none : left [] ≡ []
  pub more : (x : A) (xs : List A) → left (x ∷ xs) ≡ cond (test x) (left xs) (x ∷ left xs)

module _ {A : Type 0} {test : A → Bool} {left : List A → List A} (h : LeavesOut test left) where
  goes : (x : A) (xs : List A) → test x ≡ true → left (x ∷ xs) ≡ left xs
  goes x xs e = h.more x xs ∙ rw e refl

  stays : (x : A) (xs : List A) → test x ≡ false → left (x ∷ xs) ≡ (x ∷ left xs)
  stays x xs e = h.more x xs ∙ rw e refl

  pub of_joined : (xs ys : List A) → left (xs ++ ys) ≡ left xs ++ left ys
  of_joined [] ys = ap (λ l. l ++ left ys) (sym h.none)
  of_joined (x ∷ xs) ys = by (test x) refl (of_joined xs ys)
    where
      by : (b : Bool) → test x ≡ b → left (xs ++ ys) ≡ left xs ++ left ys → left (x ∷ xs ++ ys) ≡ left (x ∷ xs) ++ left ys
      by true e ih = goes x (xs ++ ys) e ∙ ih ∙ ap (λ l. l ++ left ys) (sym (goes x xs e))
      by false e ih = stays x (xs ++ ys) e ∙ ap (λ l. x ∷ l) ih ∙ ap (λ l. l ++ left ys) (sym (stays x xs e))

pub either_first : {A : Type 0} {t u : A → Bool} {f g : List A → List A} → LeavesOut t f → LeavesOut u g → (xs : List A) → f (g xs) ≡ g (f xs)
either_first {f} {g} a b [] = ap f b.none ∙ a.none ∙ sym b.none ∙ ap g (sym a.none)
either_first {t} {u} {f} {g} a b (x ∷ xs) = by (t x) refl (u x) refl (either_first a b xs)
  where
    by : (v : Bool) → t x ≡ v → (w : Bool) → u x ≡ w → f (g xs) ≡ g (f xs) → f (g (x ∷ xs)) ≡ g (f (x ∷ xs))
    by true e true d ih = ap f (goes b x xs d) ∙ ih ∙ ap g (sym (goes a x xs e))
    by true e false d ih = ap f (stays b x xs d) ∙ goes a x (g xs) e ∙ ih ∙ ap g (sym (goes a x xs e))
    by false e true d ih = ap f (goes b x xs d) ∙ ih ∙ sym (goes b x (f xs) d) ∙ ap g (sym (stays a x xs e))
    by false e false d ih = ap f (stays b x xs d) ∙ stays a x (g xs) e ∙ ap (λ l. x ∷ l) ih ∙ sym (stays b x (f xs) d) ∙ ap g (sym (stays a x xs e))
