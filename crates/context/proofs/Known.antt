-- A pair that was read is what stands there, and so are pairs and sections. Assumes nothing.
use mathlib.Core.Path.{◌≡◌, refl, ◌∙◌}
use mathlib.Core.Bool.{Bool, true, false}
use mathlib.Core.List.{List, []}
use Prim.Native.Nat.{ℕ, suc, ◌+◌, ◌≤◌, ◌<◌}
use native.Mathlib.Omega.{arith}
use lib.Dec.{eqb}
use Rattle.format.specs.Read.{End, end_at, accepted, at}
use Rattle.format.specs.Serialize.{read_uint16}
use Rattle.format.specs.Fields.{PairAt}
use Rattle.format.specs.Context.{Mode, read_aad_pair, read_next_aad_pair, read_aad_by, read_aad, read_aad_of, read_aad_section}
use Rattle.format.specs.Places.{items_here, pair_here, pair_end}
use Rattle.steps.proofs.Tidy.{Tidy, tidy, return_tidy, text_tidy, uint16_tidy}
use Rattle.format.proofs.Tests.{is_nleb}
use Rattle.steps.proofs.Steps.{un_bind, un_test, un_held, un_return}
use Rattle.steps.proofs.Enclosed.{un_enclosed}
use Rattle.steps.proofs.Numbers.{uint16_known}
use Rattle.steps.proofs.Entries.{text_known}
use Rattle.entries.proofs.Walk.{Known, Kind}
use Rattle.entries.proofs.Sections.{Holds, all_hold}

-- tidy readers
pub pair_tidy : (e : End) → Tidy (read_aad_pair e)
unfolding read_aad_pair
pair_tidy e = search tidy depth 20

pub next_pair_tidy : (e : End) (acc : List PairAt) → Tidy (read_next_aad_pair e acc)
unfolding read_next_aad_pair
next_pair_tidy e acc = search (tidy, pair_tidy) depth 20

pub aad_tidy : (mode : Mode) (n : ℕ) (e : End) → Tidy (read_aad mode n e)
unfolding read_aad read_aad_by
aad_tidy mode n e = search (tidy, next_pair_tidy) depth 20

aad_of_tidy : (mode : Mode) (b : Bool) (n : ℕ) → Tidy (read_aad_of mode b n)
unfolding read_aad_of
aad_of_tidy mode true n = return_tidy []
aad_of_tidy mode false n = search (tidy, aad_tidy)

pub section_tidy : (mode : Mode) → Tidy (read_aad_section mode)
unfolding read_aad_section
section_tidy mode = search (tidy, aad_of_tidy)

-- a pair
pub pair_known : (e : End) (m : List ℕ) (s : ℕ) (a : PairAt) (t : ℕ) → at (read_aad_pair e) m s ≡ accepted a t → Known pair_here pair_end m s a t
unfolding read_aad_pair
pair_known e m s a t f =
    let x = un_bind _ (text_tidy e 10) m s a t f in
    let k = (text_known e 10 m s x.0 x.1 x.2).0 in
    let y = un_bind _ (text_tidy e 11) m x.1 a t x.3 in
    let v = (text_known e 11 m x.1 y.0 y.1 y.2).0 in
    let u = un_return _ m y.1 a t y.3 in
    record { is = u.0 ∙ rw (v.is, k.is, k.tail); tail = u.1 ∙ v.tail ∙ rw k.tail; within = omega (arith, u.1, v.tail, v.there) }

-- and it ends within the section's end
pub pair_held : (e : ℕ) (m : List ℕ) (s : ℕ) (a : PairAt) (t : ℕ) → at (read_aad_pair (end_at e)) m s ≡ accepted a t → t ≤ e
unfolding read_aad_pair
pair_held e m s a t f =
    let x = un_bind _ (text_tidy (end_at e) 10) m s a t f in
    let y = un_bind _ (text_tidy (end_at e) 11) m x.1 a t x.3 in
    let v : y.1 < suc e = is_nleb (suc e) y.1 (text_known (end_at e) 11 m x.1 y.0 y.1 y.2).1 in
    let u = un_return _ m y.1 a t y.3 in
    omega (arith, u.1)

next_pair_known : (e : End) (acc : List PairAt) (m : List ℕ) (s : ℕ) (a : PairAt) (t : ℕ) → at (read_next_aad_pair e acc) m s ≡ accepted a t → Known pair_here pair_end m s a t
unfolding read_next_aad_pair
next_pair_known e acc m s a t f =
    let x = un_bind _ (pair_tidy e) m s a t f in
    let p = pair_known e m s x.0 x.1 x.2 in
    let y = un_test 12 _ _ m x.1 a t x.3 in
    let u = un_return x.0 m x.1 a t y.1 in
    record { is = u.0 ∙ p.is; tail = u.1 ∙ p.tail; within = omega (arith, u.1, p.within) }

pub pair_kind : (e : End) → Kind (read_next_aad_pair e) pair_here pair_end
pair_kind e = record { tidy = next_pair_tidy e; known = next_pair_known e }

pub forward : (m : List ℕ) (s : ℕ) → s ≤ pair_end m s
forward m s = omega arith

-- an accepted section: its pairs stand from the fifth byte on
pub section_known : (mode : Mode) (m : List ℕ) (start : ℕ) (ps : List PairAt) (t : ℕ) → at (read_aad_section mode) m start ≡ accepted ps t → Holds pair_here pair_end m (start + 4) ps t
unfolding read_aad_section read_aad_of read_aad read_aad_by items_here
section_known mode m start ps t e = by (eqb x.0 0) x.3
  where
    x : (n : ℕ) × (u : ℕ) × (at read_uint16 m start ≡ accepted n u) × (at (read_aad_of mode (eqb n 0) n) m u ≡ accepted ps t)
    x = un_bind _ uint16_tidy m start ps t e

    by : (b : Bool) → at (read_aad_of mode b x.0) m x.1 ≡ accepted ps t → Holds pair_here pair_end m (start + 4) ps t
    by true q =
        let k = uint16_known m start x.0 x.1 x.2 in
        let z = un_return [] m x.1 ps t q in
        rw (z.0, z.1) (record { are = refl; inside = λ h. absurd (omega arith); within = omega arith })
    by false q =
        let k = uint16_known m start x.0 x.1 x.2 in
        let r = un_enclosed x.0 14 (read_aad mode x.0) m x.1 (omega arith) ps t q in
        let w = un_held (end_at (x.1 + x.0)) 2 _ m x.1 ps t r in
        let y = un_bind _ uint16_tidy m x.1 ps t w.1 in
        let c = uint16_known m x.1 y.0 y.1 y.2 in
        let a = un_test 8 _ _ m y.1 ps t y.3 in
        let b = un_test 21 _ _ m y.1 ps t a.1 in
        let d = un_test 9 _ _ m y.1 ps t b.1 in
        all_hold (pair_kind (end_at (x.1 + x.0))) m y.0 y.1 (start + 4) (omega arith) (omega arith) ps t d.1
