-- The ways out of measuring, one law each. Assumes nothing.
use Prim.Native.Nat.{ℕ, ◌≤◌}
use mathlib.Core.Path.{◌≡◌, refl, sym, ap, ◌∙◌}
use mathlib.Core.Bool.{Bool, false, not, ◌||◌}
use mathlib.Core.List.{List}
use lib.Dec.{eqb}
use lib.ListN.{length}
use Rattle.std.specs.Prelude.{Result, Ok, Err}
use Rattle.format.specs.Read.{refused, at}
use Rattle.format.specs.Shared.{frame_fits}
use Rattle.format.specs.Context.{read_aad_section}
use Rattle.format.specs.Keys.{read_encrypted_data_keys_section}
use Rattle.format.specs.Keys.{Max as Room}
use Rattle.format.specs.Body.{tests_frames, read_opening, read_closing, read_body}
use Rattle.wire.specs.Codes.{because}
use Rattle.wire.specs.declared.refusals.Refusal.{Refusal}
use Rattle.wire.specs.declared.SuccessfulRead.{SuccessfulRead}
use Rattle.wire.proofs.Answers.{Got, read_got, read_no}
use Rattle.request.specs.Codes.{which_of, policy_of, mode_of, max_of}
use Rattle.request.specs.declared.Request.{Request}
use Rattle.entries.specs.Codes.{counted}
use Rattle.entries.proofs.Sections.{counted_no}
use Rattle.context.proofs.Whole as pairs
use Rattle.keys.proofs.Whole as keys
use Rattle.ends.specs.Codes.{opening_code, opening_of, closing_code, closing_of}
use Rattle.ends.specs.declared.Opening.{Opening}
use Rattle.ends.specs.declared.Closing.{Closing}
use Rattle.ends.proofs.Tidy.{opening_within}
use Rattle.body_measure.specs.Codes.{frame_test, asks, Measured}
use Rattle.body_measure.proofs.Stages.{at_opening, at_context, at_keys, at_closing, at_20}

-- a stage begins at a place of the message
module _ (q : Request) (m : List ℕ) (s : ℕ) where
  pub opening_in : (a : Result (SuccessfulRead Opening) Refusal) → a ≡ opening_of (at (read_opening (which_of q.which) (policy_of q.policy)) m s) → (o : SuccessfulRead Opening) → a ≡ Ok o → o.tail ≤ length m
  opening_in a is o b =
      let z = read_got opening_code (at (read_opening (which_of q.which) (policy_of q.policy)) m s) a is o b in
      (opening_within (which_of q.which) (policy_of q.policy)).ends m s z.item o.tail z.is

  pub context_in : (a : Result (SuccessfulRead ℕ) Refusal) → a ≡ counted (at (read_aad_section (mode_of q.mode)) m s) → (x : SuccessfulRead ℕ) → a ≡ Ok x → x.tail ≤ length m
  context_in a is x b = (pairs.had q.mode m s a is x b).within

  pub keys_in : (a : Result (SuccessfulRead ℕ) Refusal) → a ≡ counted (at (read_encrypted_data_keys_section (max_of q.max)) m s) → (x : SuccessfulRead ℕ) → a ≡ Ok x → x.tail ≤ length m
  keys_in a is x b = (keys.had q.max m s a is x b).within

module _ (q : Request) (m : List ℕ) (start : ℕ) where
  -- whatever the tables
  no_body : (k p : ℕ) → ((pairRoom keyRoom : Room) → at (read_body (asks q pairRoom keyRoom)) m start ≡ refused k p) → (w : Refusal) → w ≡ because k p → Measured q m start (Err w)
  no_body k p e w f =
      record {
        refuses = λ v b pairRoom keyRoom. let z : because k p ≡ v = cc in e pairRoom keyRoom ∙ rw (← z);
        accepts = λ x b. cc;
      }

  module _ (a : Result (SuccessfulRead Opening) Refusal) (a_is : a ≡ opening_of (at (read_opening (which_of q.which) (policy_of q.policy)) m start)) where
    pub measure_no_opening : (w : Refusal) → a ≡ Err w → Measured q m start (Err w)
    measure_no_opening w b =
        no_body w.number w.position (λ pr kr. at_opening (asks q pr kr) m start _ _ (read_no opening_code (at (read_opening (which_of q.which) (policy_of q.policy)) m start) a a_is w b)) w refl

    module _ (o : SuccessfulRead Opening) (a_got : a ≡ Ok o) (b : Result (SuccessfulRead ℕ) Refusal) (b_is : b ≡ counted (at (read_aad_section (mode_of q.mode)) m o.tail)) where
      opened : Got opening_code (at (read_opening (which_of q.which) (policy_of q.policy)) m start) o
      opened = read_got opening_code (at (read_opening (which_of q.which) (policy_of q.policy)) m start) a a_is o a_got

      pub measure_no_context : (w : Refusal) → b ≡ Err w → Measured q m start (Err w)
      measure_no_context w e =
          no_body w.number w.position
          (λ pr kr. at_context (asks q pr kr) m start opened.item o.tail opened.is _ _ (counted_no (at (read_aad_section (mode_of q.mode)) m o.tail) b b_is w e))
          w refl

      module _ (np : SuccessfulRead ℕ) (b_got : b ≡ Ok np) (c : Result (SuccessfulRead ℕ) Refusal) (c_is : c ≡ counted (at (read_encrypted_data_keys_section (max_of q.max)) m np.tail)) where
        paired : pairs.Had q.mode m o.tail np
        paired = pairs.had q.mode m o.tail b b_is np b_got

        pub measure_no_keys : (w : Refusal) → c ≡ Err w → Measured q m start (Err w)
        measure_no_keys w e =
            no_body w.number w.position
            (λ pr kr. at_keys (asks q pr kr) m start opened.item o.tail opened.is paired.items np.tail paired.is _ _ (counted_no (at (read_encrypted_data_keys_section (max_of q.max)) m np.tail) c c_is w e))
            w refl

        module _ (nk : SuccessfulRead ℕ) (c_got : c ≡ Ok nk) (d : Result (SuccessfulRead Closing) Refusal) (d_is : d ≡ closing_of (at (read_closing (eqb o.value.version 1)) m nk.tail)) where
          keyed : keys.Had q.max m np.tail nk
          keyed = keys.had q.max m np.tail c c_is nk c_got

          d_read : d ≡ closing_of (at (read_closing (eqb opened.item.version 1)) m nk.tail)
          d_read = d_is ∙ ap (λ (x : Opening). closing_of (at (read_closing (eqb x.version 1)) m nk.tail)) (sym opened.gives)

          pub measure_no_closing : (w : Refusal) → d ≡ Err w → Measured q m start (Err w)
          measure_no_closing w e =
              no_body w.number w.position
              (λ pr kr. at_closing (asks q pr kr) m start opened.item o.tail opened.is paired.items np.tail paired.is keyed.items nk.tail keyed.is _ _ (read_no closing_code (at (read_closing (eqb opened.item.version 1)) m nk.tail) d d_read w e))
              w refl

          module _ (x : SuccessfulRead Closing) (d_got : d ≡ Ok x) (g : Bool) (g_is : g ≡ frame_test q.which x.value.contentType x.value.frameLength) where
            closed : Got closing_code (at (read_closing (eqb opened.item.version 1)) m nk.tail) x
            closed = read_got closing_code (at (read_closing (eqb opened.item.version 1)) m nk.tail) d d_read x d_got

            tested : not (tests_frames (which_of q.which)) || frame_fits closed.item.contentType closed.item.frameLength ≡ g
            tested = sym (g_is ∙ ap (λ (y : Closing). frame_test q.which y.contentType y.frameLength) (sym closed.gives))

            pub measure_20 : g ≡ false → (w : Refusal) → w ≡ because 20 0 → Measured q m start (Err w)
            measure_20 e w f =
                no_body 20 0
                (λ pr kr. at_20 (asks q pr kr) m start opened.item o.tail opened.is paired.items np.tail paired.is keyed.items nk.tail keyed.is closed.item x.tail closed.is (tested ∙ e))
                w f
