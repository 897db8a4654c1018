-- Laws of the body writer's stores, and of what its checks leave known. Assumes nothing.
use Prim.Native.Nat.{ℕ, ◌+◌, ◌-◌, ◌≤◌}
use native.Mathlib.Omega.{arith}
use mathlib.Core.Path.{◌≡◌, refl, sym, ap, ◌∙◌}
use mathlib.Core.Option.{none}
use mathlib.Core.List.{List, ◌++◌, append_assoc}
use lib.Dec.{eqb}
use lib.ListN.{length, take, drop, length-append}
use borrow.Rule.Slice.PartMut.{put_mid}
use Rattle.format.specs.Shared.{by}
use Rattle.format.specs.Policies.{Policy}
use Rattle.format.specs.Body.{image}
use Rattle.format.specs.Checks.{first}
use Rattle.format.specs.Context.{section_in}
use Rattle.format.specs.Lent.{pairs_in, fields_to_write, writing_encrypted_data_keys_section, writing_header_body_under}
use Rattle.wire.specs.Stored.{stored}
use Rattle.wire.proofs.StoreLaws.{stored_tail}
use Rattle.checks.proofs.Writers.{chain, still_long}
use Rattle.section_write.specs.Sizes.{aad_section_size, keys_section_size}
use Rattle.section_write.proofs.Images.{aad_long, keys_long}
use Rattle.ends_write.specs.Ends.{write_opening, write_closing}
use Rattle.ends_write.specs.declared.opening.Opening.{Opening}
use Rattle.ends_write.specs.declared.closing.Closing.{Closing}
use Rattle.ends_write.proofs.Ends.{opening_long, closing_long, ends_fit}
use Rattle.body_write.specs.Lent.{body_to_write}
use Rattle.body_write.specs.Ready.{mark_of, opening_of, closing_of, writing, image_of, body_size, SectionsReady, BodyReady}
use Rattle.body_write.specs.declared.body.Body.{Body}
use Rattle.body_write.proofs.BodyChecks.{version_small, type_small, suite_small, content_small, iv_small, body_pairs_passed, body_pairs_few, body_keys_passed, id_long, data_long}

-- the ends that the code stores
abbrev opening_bytes : Opening → List ℕ
opening_bytes o = write_opening (eqb o.version 1) o.version o.messageType o.suite o.messageId.now

abbrev closing_bytes : Closing → List ℕ
closing_bytes z = write_closing (eqb z.version 1) z.contentType z.headerIvLength z.frameLength z.suiteData.now

module _ (body : Body) where
  abbrev opening : List ℕ
  opening = opening_bytes (opening_of body)

  abbrev closing : List ℕ
  closing = closing_bytes (closing_of body)

  abbrev sections : List ℕ
  sections = section_in (mark_of body) (pairs_in body.text.now body.pairs.now) ++ (writing_encrypted_data_keys_section body.text.now body.keys.now).image

  image_is : image_of body ≡ opening ++ (sections ++ closing)
  unfolding body_to_write fields_to_write image writing_encrypted_data_keys_section write_opening write_closing
  image_is = ap (λ (l : List ℕ). opening ++ l) (sym (append_assoc (section_in (mark_of body) (pairs_in body.text.now body.pairs.now)) (writing_encrypted_data_keys_section body.text.now body.keys.now).image closing))

  module _ (size room : ℕ) (r : BodyReady body size room) where
    opens : length opening ≡ by body.numbers.version 20 35
    opens = opening_long (eqb body.numbers.version 1) body.numbers.version body.numbers.messageType body.numbers.suite body.messageId.now r.idLong

    closes : length closing ≡ by body.numbers.version 10 37
    closes = closing_long (eqb body.numbers.version 1) body.numbers.contentType body.numbers.headerIvLength body.numbers.frameLength body.suiteData.now r.dataLong

    holds : length sections ≡ aad_section_size (mark_of body) body.pairs.now + keys_section_size body.keys.now
    holds =
        let a = aad_long body.text.now body.pairs.now (mark_of body) r.pairs in
        let b = keys_long body.text.now body.keys.now r.keys in
        simp length-append (omega arith)

    image_long : length (image_of body) ≡ body_size body
    image_long = rw (image_is, length-append, length-append) (omega (arith, opens, closes, holds))

  module _ (size : ℕ) (out : List ℕ) (r : BodyReady body size (length out)) (o : Opening) (oIs : o ≡ opening_of body) (o₁ : List ℕ)
      (is : o₁ ≡ stored out 0 (write_opening (eqb o.version 1) o.version o.messageType o.suite o.messageId.now)) (at : ℕ) (atIs : at ≡ by o.version 20 35) where
    q₁ : o₁ ≡ stored out 0 opening
    q₁ = rw oIs at is

    at_is : at ≡ by body.numbers.version 20 35
    at_is = rw oIs at atIs

    -- the sections go behind the opening
    pub sections_ready : SectionsReady body at (length o₁)
    sections_ready =
        let w = r.whole in
        let a = opens size (length out) r in
        let l₁ = still_long out o₁ 0 opening q₁ (omega (arith, r.fits)) in
        record { pairs = r.pairs; few = r.few; keys = r.keys; fits = omega (arith, at_is, r.fits) }

    pub body_stored : (z : Closing) → z ≡ closing_of body → (o₂ o₃ : List ℕ) (c : ℕ) → c ≡ by z.version 10 37
        → o₂ ≡ stored o₁ at (section_in (mark_of body) (pairs_in body.text.now body.pairs.now) ++ (writing_encrypted_data_keys_section body.text.now body.keys.now).image)
        → o₃ ≡ stored (take (length o₂ - (size - c)) (drop (size - c) o₂)) 0 (write_closing (eqb z.version 1) z.contentType z.headerIvLength z.frameLength z.suiteData.now)
        → put_mid (size - c) (length o₂ - (size - c)) o₂ o₃ ≡ stored out 0 (image_of body)
    body_stored z zIs o₂ o₃ c cIs q₂ q₃ =
        let w = r.whole in
        let a = opens size (length out) r in
        let b = holds size (length out) r in
        let d = closes size (length out) r in
        let c_is : c ≡ by body.numbers.version 10 37 = rw zIs at cIs in
        let l₁ = still_long out o₁ 0 opening q₁ (omega (arith, r.fits)) in
        let l₂ = still_long o₁ o₂ at sections q₂ (omega (arith, at_is, r.fits)) in
        let last = stored_tail o₂ o₃ closing (size - c) (omega (arith, c_is, r.fits)) (rw zIs at q₃) in
        let two = chain o₁ o₂ _ at (size - c) sections closing q₂ (omega (arith, at_is, c_is)) last (omega (arith, at_is, r.fits)) in
        chain out o₁ _ 0 at opening (sections ++ closing) q₁ (omega (arith, at_is)) two (omega (arith, r.fits)) ∙ rw image_is

-- where all checks pass
module _ (policy : Policy) (body : Body) where
  its_image : (writing policy body).image ≡ image_of body
  unfolding writing_header_body_under body_to_write
  its_image = refl

  -- what is stored is what the writing asks for
  pub image_stored : (out after : List ℕ) → after ≡ stored out 0 (image_of body) → after ≡ stored out 0 (writing policy body).image
  image_stored out after e = e ∙ ap (stored out 0) (sym its_image)

  module _ (all_pass : first (writing policy body).checks ≡ none) where
    ready : (size room : ℕ) → size ≡ body_size body → size ≤ room → BodyReady body size room
    ready size room q h =
        let i = id_long policy body all_pass in
        let d = data_long policy body all_pass in
        let f = ends_fit (eqb body.numbers.version 1) (length body.messageId.now) (length body.suiteData.now) i d in
        record {
          version = version_small policy body all_pass;
          messageType = type_small policy body all_pass;
          suite = suite_small policy body all_pass;
          contentType = content_small policy body all_pass;
          headerIvLength = iv_small policy body all_pass;
          pairs = body_pairs_passed policy body all_pass;
          few = body_pairs_few policy body all_pass;
          keys = body_keys_passed policy body all_pass;
          idLong = i;
          dataLong = d;
          opening = f.0;
          ten = f.1;
          closing = f.2;
          whole = q;
          fits = h;
        }

    pub body_length : length (writing policy body).image ≡ body_size body
    body_length =
        let size = body_size body in
        ap length its_image ∙ image_long body size size (ready size size refl (omega arith))

    pub body_ready : (size room : ℕ) → size ≡ length (writing policy body).image → size ≤ room → BodyReady body size room
    body_ready size room e h = ready size room (e ∙ body_length) h
