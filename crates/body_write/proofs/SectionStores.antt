-- Laws of storing both sections, each into the part of the output that begins at it. Assumes nothing.
use Prim.Native.Nat.{ℕ, ◌+◌, ◌-◌, ◌≤◌}
use native.Mathlib.Omega.{arith}
use mathlib.Core.Path.{◌≡◌}
use mathlib.Core.List.{List, ◌++◌}
use lib.ListN.{length, take, drop, length-append, length-take, length-drop}
use borrow.Rule.Slice.PartMut.{put_mid}
use Rattle.format.specs.Context.{section_in}
use Rattle.format.specs.Lent.{pairs_in, writing_encrypted_data_keys_section}
use Rattle.wire.specs.Stored.{stored}
use Rattle.wire.proofs.StoreLaws.{stored_tail}
use Rattle.checks.proofs.Writers.{chain}
use Rattle.section_write.specs.Sizes.{aad_section_size, PairsReady, KeysReady}
use Rattle.section_write.proofs.Images.{aad_long}
use Rattle.fields.specs.Codes.{form_of, form_named}
use Rattle.fields.specs.declared.Form.{Form}
use Rattle.body_write.specs.Ready.{mark_of, SectionsReady}
use Rattle.body_write.specs.declared.body.Body.{Body}

-- how long a lent part is, and the whole after it came back
tail_long : (out : List ℕ) (at : ℕ) → at ≤ length out → length (take (length out - at) (drop at out)) ≡ length out - at
tail_long out at h = simp (length-take, length-drop) (omega arith)

lent_long : (out ys : List ℕ) (at : ℕ) → at ≤ length out → length ys ≡ length (take (length out - at) (drop at out)) → length (put_mid at (length out - at) out ys) ≡ length out
lent_long out ys at h e = let t = tail_long out at h in simp (length-append, length-take, length-drop) (omega (arith, e, t))

module _ (body : Body) (out : List ℕ) (at : ℕ) (r : SectionsReady body at (length out)) where
  abbrev context : List ℕ
  context = section_in (mark_of body) (pairs_in body.text.now body.pairs.now)

  abbrev keys : List ℕ
  keys = (writing_encrypted_data_keys_section body.text.now body.keys.now).image

  module _ (form : Form) (formIs : form ≡ form_named body.numbers.form) where
    pub first_ready : PairsReady (form_of form) body.text.now body.pairs.now (length (take (length out - at) (drop at out)))
    first_ready =
        let t = tail_long out at (omega (arith, r.fits)) in
        rw formIs (record { table_passed = r.pairs; few = r.few; fits = omega (arith, r.fits) })

    module _ (ys : List ℕ) (s : ℕ) (is : s ≡ aad_section_size (form_of form) body.pairs.now) (long : length ys ≡ length (take (length out - at) (drop at out))) where
      abbrev mid : List ℕ
      mid = put_mid at (length out - at) out ys

      size_is : s ≡ aad_section_size (mark_of body) body.pairs.now
      size_is = rw formIs at is

      mid_long : length mid ≡ length out
      mid_long = lent_long out ys at (omega (arith, r.fits)) long

      pub second_starts : at + s ≤ length (put_mid at (length out - at) out ys)
      second_starts = omega (arith, size_is, mid_long, r.fits)

      pub second_ready : KeysReady body.text.now body.keys.now (length (take (length (put_mid at (length out - at) out ys) - (at + s)) (drop (at + s) (put_mid at (length out - at) out ys))))
      second_ready = let t = tail_long mid (at + s) second_starts in record { table_passed = r.keys; fits = omega (arith, size_is, mid_long, r.fits) }

      pub sections_stored : (zs : List ℕ) → ys ≡ stored (take (length out - at) (drop at out)) 0 (section_in (form_of form) (pairs_in body.text.now body.pairs.now))
          → zs ≡ stored (take (length (put_mid at (length out - at) out ys) - (at + s)) (drop (at + s) (put_mid at (length out - at) out ys))) 0 (writing_encrypted_data_keys_section body.text.now body.keys.now).image
          → put_mid (at + s) (length (put_mid at (length out - at) out ys) - (at + s)) (put_mid at (length out - at) out ys) zs
          ≡ stored out at (section_in (mark_of body) (pairs_in body.text.now body.pairs.now) ++ (writing_encrypted_data_keys_section body.text.now body.keys.now).image)
      sections_stored zs ey ez =
          let l = aad_long body.text.now body.pairs.now (mark_of body) r.pairs in
          let one = stored_tail out ys context at (omega (arith, r.fits)) (rw formIs at ey) in
          let two = stored_tail mid zs keys (at + s) second_starts ez in
          chain out mid _ at (at + s) context keys one (omega (arith, size_is)) two (omega (arith, r.fits))
