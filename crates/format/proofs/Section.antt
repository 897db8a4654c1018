-- A context section is read exactly as it is written, in either form: it accepts what the source's reading does. Assumes nothing.
use mathlib.Core.Path.{◌≡◌, refl, sym, subst, ◌∙◌}
use mathlib.Core.Bool.{Bool, true, false}
use mathlib.Core.Logic.{◌⊎◌, inl, inr}
use mathlib.Core.List.{List, ◌++◌}
use Prim.Native.Nat.{ℕ, ◌+◌, ◌<◌}
use native.Mathlib.Omega.{arith}
use lib.Dec.{leb, eqb}
use lib.ListN.{length}
use Rattle.format.specs.Read.{ReadResult, success, more_needed, error, Reader, go_on, ◌>>=◌, ◌>>◌, return, test, End, end_at, held, enclosed}
use Rattle.format.specs.Context.{Mode, read_aad_by, read_aad, read_aad_of, read_aad_section}
use Rattle.format.specs.Source.{source_read_next_aad_pair, source_read_aad_of}
use Rattle.format.proofs.Tests.{is_leb, is_nleb, neqb_is}
use Rattle.format.proofs.Exact.{Exact, enclosed_fits, enclosed_short, error_is_no_success}
use Rattle.format.proofs.Context.{ContextOk, context_bytes, context_at, of_exact, section_exact_by}
use Rattle.format.proofs.Takes.{Past}
use Rattle.format.proofs.Compared.{Compared, aad_compared}

-- a refusal
abbrev pub Refuses : {A : Type 0} → ReadResult A → Type 0
Refuses (success a l t) = ⊥
Refuses (more_needed p) = Unit {0}
Refuses (error k) = Unit {0}

-- the two answer alike; or ours refuses 32, and the source's refuses too
abbrev pub Alike : {A : Type 0} → ReadResult A → ReadResult A → Type 0
Alike x y = (x ≡ y) ⊎ ((x ≡ error 32) × Refuses y)

-- what runs past the section does not end where the section does
module _ {A : Type 0} (n k : ℕ) (r r' : End → Reader A) (l : List ℕ) (s : ℕ) where
  enclosed_alike : Compared (s + n) (r (end_at (s + n)) l s) (r' (end_at (s + n)) l s) → Alike (enclosed n k r l s) (enclosed n k r' l s)
  unfolding ◌>>=◌ test return
  enclosed_alike c = by (leb n (length l)) refl
    where
      ended : A → Reader A
      ended a l' t = go_on (test k (eqb t (s + n)) l' t) (λ u. return a)

      late : (y : ReadResult A) → Past (s + n) y → Refuses (go_on y ended)
      late (success a l' t) p = rw (neqb_is t (s + n) (λ q. omega arith)) tt
      late (more_needed p) q = tt
      late (error j) q = tt

      inner : (x y : ReadResult A) → Compared (s + n) x y → Alike (go_on x ended) (go_on y ended)
      inner x y (inl (q, i)) = inl (rw q refl)
      inner x y (inr (q, p)) = inr (rw q refl, late y p)

      by : (b : Bool) → leb n (length l) ≡ b → Alike (enclosed n k r l s) (enclosed n k r' l s)
      by true h = let g = is_leb n (length l) h in rw (enclosed_fits n k r l s g, enclosed_fits n k r' l s g) (inner _ _ c)
      by false h = let g = is_nleb n (length l) h in inl (enclosed_short n k r l s g ∙ sym (enclosed_short n k r' l s g))

-- what follows a section's length, which has two bytes
pub of_alike : (mode : Mode) (b : Bool) (n : ℕ) → n < 65536 → (l : List ℕ) (s : ℕ) → Alike (read_aad_of mode b n l s) (source_read_aad_of mode b n l s)
unfolding read_aad_of source_read_aad_of held test ◌>>◌
of_alike mode true n few l s = inl refl
of_alike mode false n few l s = enclosed_alike n 14 (read_aad mode n) (λ e. read_aad_by source_read_next_aad_pair mode n) l s (aad_compared (s + n) mode n l s (omega arith))

-- so what is accepted is the same
alike_exact : {A W : Type 0} {r r' : Reader A} {ok : W → Type 0} {img : W → List ℕ} {put : ℕ → W → A} → ((l : List ℕ) (s : ℕ) → Alike (r l s) (r' l s)) → Exact r' ok img put → Exact r ok img put
alike_exact {A} {W} {r} {r'} {ok} {img} {put} h x =
    record { sound = λ l s a l' t hb e. x.sound l s a l' t hb (onward l s a l' t (h l s) e); complete = λ w s l o. back (img w ++ l) s _ _ _ (h (img w ++ l) s) (x.complete w s l o) }
  where
    onward : (l : List ℕ) (s : ℕ) (a : A) (l' : List ℕ) (t : ℕ) → Alike (r l s) (r' l s) → r l s ≡ success a l' t → r' l s ≡ success a l' t
    onward l s a l' t (inl q) e = sym q ∙ e
    onward l s a l' t (inr (q, p)) e = error_is_no_success (sym q ∙ e)

    back : (l : List ℕ) (s : ℕ) (a : A) (l' : List ℕ) (t : ℕ) → Alike (r l s) (r' l s) → r' l s ≡ success a l' t → r l s ≡ success a l' t
    back l s a l' t (inl q) e = q ∙ e
    back l s a l' t (inr (q, p)) e = absurd (subst Refuses e p)

pub section_exact : (mode : Mode) → Exact (read_aad_section mode) (ContextOk mode) context_bytes context_at
unfolding read_aad_section
section_exact mode = section_exact_by mode (read_aad_of mode) (λ b n few. alike_exact (of_alike mode b n few) (of_exact mode b n))
