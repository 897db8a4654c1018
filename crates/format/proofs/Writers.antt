-- What every writer leaves: its image and its length, or all as it was. Assumes nothing.
use mathlib.Core.Path.{◌≡◌, refl, ap}
use mathlib.Core.Option.{Option, none, some}
use mathlib.Core.List.{List, [], ◌∷◌, ◌++◌}
use Prim.Native.Nat.{ℕ, ◌≤◌}
use native.Mathlib.Omega.{arith}
use lib.Dec.{leb}
use lib.ListN.{length, drop, length-append, length-drop}
use Rattle.format.specs.Read.{accepted, refused}
use Rattle.format.specs.Checks.{check, first}
use Rattle.format.specs.Lent.{filled, Writing, refusal_of, written_of, output_of, output_after}
use Rattle.format.specs.Sections.{WriterLaw}
use Rattle.format.proofs.Tests.{leb_is, is_leb}
use Rattle.format.proofs.Firsts.{Holds, holds, unheld, split, join}

-- what an answer says of what was found
module _ (image : List ℕ) where
  pub of_accepted : (o : Option ℕ) (n : ℕ) → written_of o image ≡ accepted tt n → (o ≡ none) × (n ≡ length image)
  of_accepted none n e = (refl, cc)
  of_accepted (some k) n e = let z : ◌≡◌ {A = ℕ} 0 1 = cc in absurd (omega arith)

  pub of_refused : (o : Option ℕ) (k p : ℕ) → written_of o image ≡ refused k p → (o ≡ some k) × (p ≡ 0)
  of_refused none k p e = let z : ◌≡◌ {A = ℕ} 0 1 = cc in absurd (omega arith)
  of_refused (some j) k p e = (ap some (cc), cc)

-- a writer's refusal is none just where its checks hold and the image fits
module _ (w : Writing) (out : List ℕ) where
  pub none_then : first w.checks ≡ none → length w.image ≤ length out → refusal_of w out ≡ none
  unfolding refusal_of
  none_then e h = unheld (w.checks ++ (check 28 (leb (length w.image) (length out)) ∷ [])) (join w.checks (check 28 (leb (length w.image) (length out)) ∷ []) (holds w.checks e) (leb_is _ _ h, tt))

  then_none : refusal_of w out ≡ none → Holds w.checks × (length w.image ≤ length out)
  unfolding refusal_of
  then_none e =
      let (a, b) = split w.checks (check 28 (leb (length w.image) (length out)) ∷ []) (holds (w.checks ++ (check 28 (leb (length w.image) (length out)) ∷ [])) e) in
      (a, is_leb _ _ b.0)

  output_then : refusal_of w out ≡ none → output_after w out ≡ filled w.image out
  output_then e = rw e refl

  -- a filled output is as long as it was
  filled_length : length w.image ≤ length out → length (filled w.image out) ≡ length out
  filled_length h = let p = length-append w.image (drop (length w.image) out) in let q = length-drop (length w.image) out in omega arith

  kept : (o : Option ℕ) (k p : ℕ) → written_of o w.image ≡ refused k p → (p ≡ 0) × (output_of o w.image out ≡ out)
  kept o k p e = let (q, z) = of_refused w.image o k p e in (z, rw q refl)

  same_length : (o : Option ℕ) → refusal_of w out ≡ o → length (output_of o w.image out) ≡ length out
  same_length none e = filled_length (then_none e).1
  same_length (some j) e = refl

  pub writer_law : WriterLaw w out
  writer_law =
      record {
        writes = λ c h. (let e : refusal_of w out ≡ none = none_then c h in (rw e refl, rw e refl));
        only_then = λ n e.
            (let (o, d) = of_accepted w.image (refusal_of w out) n e in
            let (h, room) = then_none o in
            (unheld w.checks h, d, rw d room, output_then o));
        keeps = λ k p e. kept (refusal_of w out) k p e;
        as_long = same_length (refusal_of w out) refl;
      }
