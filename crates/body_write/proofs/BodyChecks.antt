-- Laws of the checks of a body: its stages, the ways out, and what checks that all pass leave known. Assumes nothing.
use Prim.Native.Nat.{◌/◌, ◌<◌}
use native.Mathlib.Omega.{arith}
use mathlib.Core.Path.{◌≡◌, refl, sym, ◌∙◌}
use mathlib.Core.Option.{none}
use mathlib.Core.List.{List, ◌++◌}
use lib.Dec.{eqb}
use lib.ListN.{length}
use borrow.Author.Tests.{eqb-true}
use Rattle.std.specs.Prelude.{Ok, Err}
use Rattle.format.specs.Shared.{by}
use Rattle.format.specs.Policies.{Policy}
use Rattle.format.specs.Checks.{Check, first, opening_checks, closing_checks, form_checks, body_checks_under}
use Rattle.format.specs.Lent.{pair_in, fields_to_write, writing_aad_section, writing_encrypted_data_keys_section, writing_header_body_under}
use Rattle.format.proofs.Firsts.{holds}
use Rattle.format.proofs.Tables.{items_length}
use Rattle.format.proofs.Accepts.{known_narrow}
use Rattle.wire.specs.declared.refusals.Refusal.{Refusal}
use Rattle.checks.specs.Answers.{Checked, checked}
use Rattle.checks.specs.Table.{Passed, entries_size}
use Rattle.checks.proofs.Stages.{stage_passes, stage_fails, front, back}
use Rattle.checks.proofs.SectionChecks.{pairs_passed, pairs_few, keys_passed}
use Rattle.ends_write.specs.declared.opening.Opening.{Opening}
use Rattle.ends_write.specs.declared.closing.Closing.{Closing}
use Rattle.ends_write.proofs.VersionLaws.{one_or_two_small, by_small}
use Rattle.body_write.specs.Lent.{body_to_write}
use Rattle.body_write.specs.Ready.{mark_of, opening_of, closing_of, writing, Small}
use Rattle.body_write.specs.declared.body.Body.{Body}

module _ (policy : Policy) (body : Body) where
  abbrev opens : List Check
  opens = opening_checks policy body.numbers.version body.numbers.messageType body.numbers.suite (length body.messageId.now)

  abbrev closes : List Check
  closes = closing_checks body.numbers.version body.numbers.contentType body.numbers.headerIvLength (length body.suiteData.now) body.numbers.frameLength

  abbrev of_pairs : List Check
  of_pairs = (writing_aad_section body.text.now body.pairs.now).checks

  abbrev of_form : List Check
  of_form = form_checks (mark_of body) (length body.pairs.now / 4)

  abbrev of_keys : List Check
  of_keys = (writing_encrypted_data_keys_section body.text.now body.keys.now).checks

  stages : (writing policy body).checks ≡ opens ++ (of_pairs ++ (of_form ++ (of_keys ++ closes)))
  unfolding body_to_write writing_header_body_under fields_to_write body_checks_under writing_aad_section writing_encrypted_data_keys_section
  stages = rw (items_length (pair_in body.text.now body.pairs.now) 4 (length body.pairs.now / 4) 0) refl

  -- the ways out
  abbrev Fails : Refusal → Type 0
  Fails r = ◌≡◌ {A = Checked} (Err r) (checked (first (writing policy body).checks))

  module _ (o : Opening) (oIs : o ≡ opening_of body) (a : Checked) (is : a ≡ checked (first (opening_checks policy o.version o.messageType o.suite (length o.messageId.now)))) where
    aIs : a ≡ checked (first opens)
    aIs = rw oIs at is

    pub body_opening : (r : Refusal) → a ≡ Err r → Fails r
    body_opening r e = rw stages (sym (stage_fails opens a aIs _ r e))

    module _ (aPasses : a ≡ Ok tt) (b : Checked) (bIs : b ≡ checked (first (writing_aad_section body.text.now body.pairs.now).checks)) where
      pub body_pairs : (r : Refusal) → b ≡ Err r → Fails r
      body_pairs r e = rw stages (sym (stage_passes opens a aIs _ aPasses ∙ stage_fails of_pairs b bIs _ r e))

      module _ (bPasses : b ≡ Ok tt) (f : Checked) (fIs : f ≡ checked (first (form_checks (mark_of body) (length body.pairs.now / 4)))) where
        pub body_form : (r : Refusal) → f ≡ Err r → Fails r
        body_form r e = rw stages (sym (stage_passes opens a aIs _ aPasses ∙ stage_passes of_pairs b bIs _ bPasses ∙ stage_fails of_form f fIs _ r e))

        module _ (fPasses : f ≡ Ok tt) (k : Checked) (kIs : k ≡ checked (first (writing_encrypted_data_keys_section body.text.now body.keys.now).checks)) where
          to_keys : checked (first (writing policy body).checks) ≡ checked (first (of_keys ++ closes))
          to_keys = rw stages (stage_passes opens a aIs _ aPasses ∙ stage_passes of_pairs b bIs _ bPasses ∙ stage_passes of_form f fIs _ fPasses)

          pub body_keys : (r : Refusal) → k ≡ Err r → Fails r
          body_keys r e = sym (to_keys ∙ stage_fails of_keys k kIs _ r e)

          pub body_closing : k ≡ Ok tt → (z : Closing) → z ≡ closing_of body → (d : Checked)
              → d ≡ checked (first (closing_checks z.version z.contentType z.headerIvLength (length z.suiteData.now) z.frameLength)) → d ≡ checked (first (writing policy body).checks)
          body_closing kPasses z zIs d dIs = let e : d ≡ checked (first closes) = rw zIs at dIs in e ∙ sym (to_keys ∙ stage_passes of_keys k kIs _ kPasses)

  -- where all pass
  module _ (all_pass : first (writing policy body).checks ≡ none) where
    opened : first opens ≡ none
    opened = front opens _ (rw stages at all_pass)

    behind : first (of_pairs ++ (of_form ++ (of_keys ++ closes))) ≡ none
    behind = back opens _ (rw stages at all_pass)

    of_rest : first (of_keys ++ closes) ≡ none
    of_rest = back of_form _ (back of_pairs _ behind)

    pub body_pairs_passed : Passed 4 body.text.now body.pairs.now
    body_pairs_passed = pairs_passed body.text.now body.pairs.now (front of_pairs _ behind)

    pub body_pairs_few : entries_size body.pairs.now < 65534
    body_pairs_few = pairs_few body.text.now body.pairs.now (front of_pairs _ behind)

    pub body_keys_passed : Passed 6 body.text.now body.keys.now
    body_keys_passed = keys_passed body.text.now body.keys.now (front of_keys _ of_rest)

    closed : first closes ≡ none
    closed = back of_keys _ of_rest

    -- each number fits where it is stored
    pub version_small : body.numbers.version < 256
    version_small = one_or_two_small _ (holds opens opened).0

    pub type_small : body.numbers.messageType < 256
    type_small = by_small (eqb body.numbers.version 1) 128 0 _ (eqb-true _ _ (holds opens opened).1.0) (omega arith) (omega arith)

    pub suite_small : body.numbers.suite < 65536
    suite_small = known_narrow body.numbers.suite (holds opens opened).1.1.0

    pub content_small : body.numbers.contentType < 256
    content_small = one_or_two_small _ (holds closes closed).0

    pub iv_small : body.numbers.headerIvLength < 256
    iv_small = by_small (eqb body.numbers.version 1) 12 0 _ (eqb-true _ _ (holds closes closed).1.0) (omega arith) (omega arith)

    pub id_long : length body.messageId.now ≡ by body.numbers.version 16 32
    id_long = eqb-true _ _ (holds opens opened).1.1.1.1.1.0

    pub data_long : length body.suiteData.now ≡ by body.numbers.version 0 32
    data_long = eqb-true _ _ (holds closes closed).1.1.0

    pub tables_small : Small body
    tables_small =
        let p = body_pairs_passed in
        let k = body_keys_passed in
        record { pairs = omega (arith, p.whole, p.count); keys = omega (arith, k.whole, k.count) }
