-- The ways out of the tests before anything is stored, one law each. Assumes nothing.
use Prim.Native.Nat.{ℕ}
use mathlib.Core.Path.{◌≡◌, refl, sym, ap, ◌∙◌}
use mathlib.Core.Bool.{Bool, true, false}
use mathlib.Core.Option.{Option, none, some}
use mathlib.Core.List.{List, ◌++◌, append_assoc}
use Rattle.std.specs.Prelude.{Result, Ok, Err}
use Rattle.format.specs.Read.{refused, operation}
use Rattle.format.specs.Shared.{frame_fits}
use Rattle.format.specs.Fields.{today, HeaderBody, fields_of}
use Rattle.format.specs.Context.{section_in}
use Rattle.format.specs.Keys.{write_encrypted_data_keys_section}
use Rattle.format.specs.Body.{v1_only, read_body, image}
use Rattle.format.specs.Checks.{first}
use Rattle.format.specs.Mending.{without_tables}
use Rattle.format.specs.Reissuing.{Reissue, reissued_image, reissued_header_body}
use Rattle.format.specs.Reissued.{added_checks, reissue_checks, by_checks, behind_reading}
use Rattle.format.proofs.Tests.{is_eqb}
use Rattle.format.proofs.Accepts.{known_narrow}
use Rattle.format.proofs.Firsts.{holds, first_pass, first_stop}
use Rattle.format.proofs.ReissueOrder.{in_order}
use Rattle.wire.specs.Codes.{because}
use Rattle.wire.specs.declared.refusals.Refusal.{Refusal}
use Rattle.checks.specs.Answers.{Checked, checked}
use Rattle.checks.proofs.Stages.{stage_none, stage_some}
use Rattle.ends_write.specs.Ends.{write_opening, write_closing}
use Rattle.reissuing.specs.Codes.{front, body_kept, Stands, Found, Tested}
use Rattle.reissuing.specs.declared.storing.Draft.{Draft}

-- what is stored for the draft is the image of the definition
same_parts : (suiteData front x x' y y' : List ℕ) (c c' f f' : ℕ) → x ≡ x' → y ≡ y' → c ≡ c' → f ≡ f'
    → front ++ (x ++ (y ++ write_closing false c 0 f suiteData)) ≡ front ++ ((x' ++ y') ++ write_closing false c' 0 f' suiteData)
same_parts suiteData front x x' y y' c c' f f' p q r t = rw (p, q, r, t, append_assoc x' y')

module _ (a : Reissue) (m : List ℕ) (s : ℕ) where
  -- by what reading answers
  by_reading : operation (reissued_header_body a) m s ≡ behind_reading (reissue_checks a) a (operation (read_body (without_tables v1_only)) m s)
  by_reading = (in_order a m s).told

  says_not : (k p : ℕ) (w : Refusal) → operation (reissued_header_body a) m s ≡ refused k p → w ≡ because k p → Tested a m s (Err w)
  says_not k p w e f =
      record {
        refuses = λ q g. (let z : because k p ≡ q = cc in e ∙ rw (← z) refl);
        accepts = λ d g. cc;
      }

  module _ (x : Result Draft Refusal) (x_is : Found m s x) where
    pub not_read : (q : Refusal) → x ≡ Err q → Tested a m s (Err q)
    not_read q e = says_not q.number q.position q (by_reading ∙ ap (behind_reading (reissue_checks a) a) (x_is.refuses q e)) refl

    module _ (d : Draft) (e : x ≡ Ok d) where
      stands : Stands m s d
      stands = x_is.accepts d e

      abbrev b : HeaderBody
      b = stands.body

      -- the first of the tests behind reading
      behind : (o : Option ℕ) → first (reissue_checks a b) ≡ o → operation (reissued_header_body a) m s ≡ by_checks o (reissued_image a b) stands.tail
      behind o q = by_reading ∙ ap (behind_reading (reissue_checks a) a) stands.reads ∙ ap (λ y. by_checks y (reissued_image a b) stands.tail) q

      module _ (c : Bool) (c_is : c ≡ frame_fits d.contentType d.frameLength) where
        frame : frame_fits b.contentType b.frameLength ≡ c
        frame = rw (stands.contentType, stands.frameLength) (sym c_is)

        pub not_20 : c ≡ false → (w : Refusal) → w ≡ because 20 0 → Tested a m s (Err w)
        not_20 f w g = says_not 20 0 w (behind (some 20) (first_stop 20 _ (added_checks a) (frame ∙ f))) g

        module _ (f : c ≡ true) (y : Checked) (y_is : y ≡ checked (first (added_checks a))) where
          frame_passes : first (reissue_checks a b) ≡ first (added_checks a)
          frame_passes = first_pass 20 _ (added_checks a) (frame ∙ f)

          pub not_added : (r : Refusal) → y ≡ Err r → Tested a m s (Err r)
          not_added r g = let (k, q, is) = stage_some (added_checks a) y y_is r g in says_not k 0 r (behind (some k) (frame_passes ∙ q)) (let z : r ≡ because k 0 = cc in z)

          module _ (g : y ≡ Ok tt) where
            none_fails : first (added_checks a) ≡ none
            none_fails = stage_none (added_checks a) y y_is g

            image_is : reissued_image a b ≡ body_kept a d
            unfolding image fields_of write_opening write_closing
            image_is =
                same_parts a.suiteData (front a) (section_in today (fields_of b).pairs) d.context.now (write_encrypted_data_keys_section (fields_of b).keys) d.keys.now b.contentType d.contentType b.frameLength d.frameLength
                stands.context stands.keys stands.contentType stands.frameLength

            pub all_passed : Tested a m s (Ok d)
            all_passed =
                let (t6, (t7, (t24, (t25, u)))) = holds (added_checks a) none_fails in
                record {
                  refuses = λ q h. cc;
                  accepts = λ d' h.
                      (let z : d ≡ d' = cc in
                      rw (← z)
                      (record {
                        image = reissued_image a b;
                        tail = stands.tail;
                        reads = behind none (frame_passes ∙ none_fails);
                        kept = image_is;
                        suite = known_narrow a.suite t6;
                        id = is_eqb _ _ t24;
                        suiteData = is_eqb _ _ t25;
                        narrow = stands.narrow;
                      }));
                }
