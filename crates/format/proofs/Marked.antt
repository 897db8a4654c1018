-- A section is marked by the form that it stands in, and is then read exactly as it is written by that mark. Assumes nothing.
use mathlib.Core.Path.{◌≡◌, refl, ap, ◌∙◌}
use mathlib.Core.Bool.{true, cond}
use mathlib.Core.List.{List, [], ◌∷◌, ◌++◌}
use Prim.Native.Nat.{ℕ, ◌+◌}
use native.Mathlib.Omega.{arith}
use lib.Dec.{eqb}
use lib.ListN.{length}
use Rattle.format.specs.Read.{ReadResult, success, more_needed, error, go_on}
use Rattle.format.specs.Serialize.{Bytes, sum}
use Rattle.format.specs.Fields.{Form, today, old, Pair, PairAt}
use Rattle.format.specs.Context.{Mode, write_expanded_aad_section, write_aad_section, section_in, read_aad_section, ContextAt, form_between, mark, with_mark}
use Rattle.format.specs.Checks.{fits_form}
use Rattle.format.proofs.Tests.{is_eqb, neqb_is, eqb_shift}
use Rattle.format.proofs.Exact.{Took, Exact, more_is_no_success, error_is_no_success}
use Rattle.format.proofs.Serialize.{length_uint16}
use Rattle.format.proofs.Context.{Context, ContextOk, context_bytes, context_at, both_allow, length_expanded}
use Rattle.format.proofs.Section.{section_exact}

-- a context by its own mark, which fits it
pub record MarkedOk (mode : Mode) (c : Context) : Type 0 where
  pub section : ContextOk mode c
  pub fits : fits_form c.form (length c.pairs) ≡ true

abbrev pub marked_at : ℕ → Context → ContextAt
marked_at s c = record { form = c.form; pairs = context_at s c }

-- the form of a section of n bytes
abbrev form_of : ℕ → Form
form_of n = cond (eqb n 4) old today

between_is : (s n : ℕ) → form_between s (s + n) ≡ form_of n
between_is s n = rw (eqb_shift s n 4) refl

-- a pair takes four bytes or more
longer : (p : Pair) (ps : List Pair) → form_of (length (write_expanded_aad_section (p ∷ ps))) ≡ today
unfolding sum
longer p ps = let e = length_expanded (p ∷ ps) in rw (neqb_is (length (write_expanded_aad_section (p ∷ ps))) 4 (λ q. omega arith)) refl

-- a context that is marked old has no pair
pub old_has_none : {C : Type 0} (p : Pair) (ps : List Pair) → fits_form old (length (p ∷ ps)) ≡ true → C
old_has_none p ps e = let z = is_eqb (length (p ∷ ps)) 0 e in absurd (omega arith)

-- so a mark that fits is told by how long the section is
told : (form : Form) (ps : List Pair) → fits_form form (length ps) ≡ true → form_of (length (section_in form ps)) ≡ form
unfolding write_aad_section sum
told today [] e = rw (length_uint16 0) refl
told today (p ∷ ps) e = longer p ps
told old [] e = rw (length_expanded []) refl
told old (p ∷ ps) e = old_has_none p ps e

-- the mark of a section, whichever form its pairs were to be written in
remarked : Context → Context
remarked c = record { form = form_of (length (context_bytes c)); pairs = c.pairs }

module _ (mode : Mode) where
  Remarked : Context → Type 0
  Remarked c = MarkedOk mode (remarked c) × (context_bytes c ≡ context_bytes (remarked c))

  as_marked : (c : Context) → ContextOk mode c → Remarked c
  unfolding remarked Remarked write_aad_section
  as_marked c o = by c.form c.pairs o
    where
      by : (form : Form) (ps : List Pair) → ContextOk mode (record { form = form; pairs = ps }) → Remarked (record { form = form; pairs = ps })
      by today [] o = rw (told today [] refl) (record { section = o; fits = refl }, refl)
      by old [] o = rw (told old [] refl) (record { section = o; fits = refl }, refl)
      by today (p ∷ ps) o = rw (longer p ps) (record { section = o; fits = refl }, refl)
      by old (p ∷ ps) o = rw (longer p ps) (record { section = record { allowed = both_allow mode (p ∷ ps); few = o.few; each = o.each }; fits = refl }, refl)

  -- a section that was taken, with its mark
  took : (l : List ℕ) (s : ℕ) (ps : List PairAt) (l' : List ℕ) (t : ℕ) → Took (ContextOk mode) context_bytes context_at l s ps l' t
      → Took (MarkedOk mode) context_bytes marked_at l s (record { form = form_between s t; pairs = ps }) l' t
  unfolding remarked Remarked
  took l s ps l' t x =
      let c : Context = x.value in
      let (ok, same) = as_marked c x.good in
      let e : form_between s t ≡ form_of (length (context_bytes c)) = ap (form_between s) x.tail ∙ between_is s (length (context_bytes c)) in
      record { value = remarked c; good = ok; split = rw (← same) x.split; tail = rw (← same) x.tail; placed = rw (e, x.placed) refl }

  pub marked_exact : Exact (with_mark (read_aad_section mode)) (MarkedOk mode) context_bytes marked_at
  unfolding with_mark
  marked_exact = record { sound = λ l s a l' t hb e. go l s a l' t hb (read_aad_section mode l s) refl e; complete = back }
    where
      go : (l : List ℕ) (s : ℕ) (a : ContextAt) (l' : List ℕ) (t : ℕ) → Bytes l → (x : ReadResult (List PairAt)) → read_aad_section mode l s ≡ x → go_on x (mark s) ≡ success a l' t
          → Took (MarkedOk mode) context_bytes marked_at l s a l' t
      go l s a l' t hb (success ps l₁ t₁) e f =
          let el : l₁ ≡ l' = cc in
          let et : t₁ ≡ t = cc in
          let ea : record { form = form_between s t₁; pairs = ps } ≡ a = cc in
          rw (ea, el, et) at (took l s ps l₁ t₁ ((section_exact mode).sound l s ps l₁ t₁ hb e))
      go l s a l' t hb (more_needed p) e f = more_is_no_success f
      go l s a l' t hb (error k) e f = error_is_no_success f

      back : (c : Context) (s : ℕ) (l : List ℕ) → MarkedOk mode c → with_mark (read_aad_section mode) (context_bytes c ++ l) s ≡ success (marked_at s c) l (s + length (context_bytes c))
      back c s l o =
          rw ((section_exact mode).complete c s l o.section, between_is s (length (context_bytes c)), told c.form c.pairs o.fits) refl
