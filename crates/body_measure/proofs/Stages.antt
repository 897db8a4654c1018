-- A body, stage by stage, and the places where its stages begin. Assumes nothing.
use Prim.Native.Nat.{ℕ, ◌*◌}
use mathlib.Core.Path.{◌≡◌, ◌∙◌}
use mathlib.Core.Bool.{true, false, not, ◌||◌}
use mathlib.Core.List.{List}
use lib.Dec.{eqb}
use lib.ListN.{length}
use Rattle.format.specs.Read.{◌>>=◌, return, accepted, refused, at}
use Rattle.format.specs.Shared.{frame_fits}
use Rattle.format.specs.Fields.{PairAt, EncryptedDataKeyAt}
use Rattle.format.specs.Context.{Mode, read_aad_section, ContextAt, form_between, mark, with_mark}
use Rattle.format.specs.Keys.{within, read_encrypted_data_keys_section}
use Rattle.format.specs.Body.{Request, Opening, Closing, whole, read_opening, read_closing, after_keys, after_context, after_opening, read_body}
use Rattle.steps.proofs.Tidy.{Tidy, bind_tidy, return_tidy}
use Rattle.steps.proofs.Steps.{go, stop, pass, fail, gives}
use Rattle.context.proofs.Known.{section_tidy as context_tidy}
use Rattle.keys.proofs.Known.{section_tidy as keys_tidy}
use Rattle.ends.proofs.Tidy.{opening_tidy, closing_tidy}

-- a section with its mark
marked_tidy : (mode : Mode) → Tidy (with_mark (read_aad_section mode))
unfolding with_mark ◌>>=◌ return
marked_tidy mode = record { later = λ l s. (bind_tidy (context_tidy mode) (mark_tidy s)).later l s }
  where
    mark_tidy : (s : ℕ) (ps : List PairAt) → Tidy (mark s ps)
    mark_tidy s ps = record { later = λ l t. (return_tidy {A = ContextAt} (record { form = form_between s t; pairs = ps })).later l t }

module _ (mode : Mode) (m : List ℕ) (s : ℕ) where
  marked_stop : (k p : ℕ) → at (read_aad_section mode) m s ≡ refused k p → at (with_mark (read_aad_section mode)) m s ≡ refused k p
  unfolding with_mark ◌>>=◌ at
  marked_stop k p e = stop (mark s) (context_tidy mode) m s k p e

  pub marked_go : (ps : List PairAt) (t : ℕ) → at (read_aad_section mode) m s ≡ accepted ps t → at (with_mark (read_aad_section mode)) m s ≡ accepted (record { form = form_between s t; pairs = ps }) t
  unfolding with_mark ◌>>=◌ at
  marked_go ps t e = go (mark s) (context_tidy mode) m s ps t e

module _ (q : Request) (m : List ℕ) (s : ℕ) where
  pub at_opening : (k p : ℕ) → at (read_opening q.which q.policy) m s ≡ refused k p → at (read_body q) m s ≡ refused k p
  unfolding read_body
  at_opening k p e = stop _ (opening_tidy q.which q.policy) m s k p e

  module _ (o : Opening) (first : ℕ) (opened : at (read_opening q.which q.policy) m s ≡ accepted o first) where
    pub at_context : (k p : ℕ) → at (read_aad_section q.mode) m first ≡ refused k p → at (read_body q) m s ≡ refused k p
    unfolding read_body after_opening
    at_context k p e = go _ (opening_tidy q.which q.policy) m s o first opened ∙ stop _ (marked_tidy q.mode) m first k p (marked_stop q.mode m first k p e)

    module _ (ps : List PairAt) (second : ℕ) (paired : at (read_aad_section q.mode) m first ≡ accepted ps second) where
      abbrev x : ContextAt
      x = record { form = form_between first second; pairs = ps }

      behind_context : at (read_body q) m s ≡ at (after_context q o x) m second
      unfolding read_body after_opening
      behind_context = go _ (opening_tidy q.which q.policy) m s o first opened ∙ go _ (marked_tidy q.mode) m first x second (marked_go q.mode m first ps second paired)

      pub at_keys : (k p : ℕ) → at (read_encrypted_data_keys_section q.max) m second ≡ refused k p → at (read_body q) m s ≡ refused k p
      unfolding after_context
      at_keys k p e = behind_context ∙ stop _ (keys_tidy q.max) m second k p e

      module _ (ks : List EncryptedDataKeyAt) (third : ℕ) (keyed : at (read_encrypted_data_keys_section q.max) m second ≡ accepted ks third) where
        pub at_closing : (k p : ℕ) → at (read_closing (eqb o.version 1)) m third ≡ refused k p → at (read_body q) m s ≡ refused k p
        unfolding after_context after_keys
        at_closing k p e = behind_context ∙ go _ (keys_tidy q.max) m second ks third keyed ∙ stop _ (closing_tidy (eqb o.version 1)) m third k p e

        module _ (c : Closing) (t : ℕ) (closed : at (read_closing (eqb o.version 1)) m third ≡ accepted c t) where
          pub at_20 : not q.frames || frame_fits c.contentType c.frameLength ≡ false → at (read_body q) m s ≡ refused 20 0
          unfolding after_context after_keys
          at_20 e =
              behind_context ∙ go _ (keys_tidy q.max) m second ks third keyed ∙ go _ (closing_tidy (eqb o.version 1)) m third c t closed ∙ fail 20 _ _ m t e

          module _ (framed : not q.frames || frame_fits c.contentType c.frameLength ≡ true) where
            pub at_22 : within (4 * length ps) q.pairRoom ≡ false → at (read_body q) m s ≡ refused 22 0
            unfolding after_context after_keys
            at_22 h =
                behind_context ∙ go _ (keys_tidy q.max) m second ks third keyed ∙ go _ (closing_tidy (eqb o.version 1)) m third c t closed ∙ pass 20 _ _ m t framed
                ∙ fail 22 _ _ m t h

            module _ (held : within (4 * length ps) q.pairRoom ≡ true) where
              pub at_23 : within (6 * length ks) q.keyRoom ≡ false → at (read_body q) m s ≡ refused 23 0
              unfolding after_context after_keys
              at_23 h =
                  behind_context ∙ go _ (keys_tidy q.max) m second ks third keyed ∙ go _ (closing_tidy (eqb o.version 1)) m third c t closed ∙ pass 20 _ _ m t framed
                  ∙ pass 22 _ _ m t held ∙ fail 23 _ _ m t h

              pub at_whole : within (6 * length ks) q.keyRoom ≡ true → at (read_body q) m s ≡ accepted (whole o (record { form = form_between first second; pairs = ps }) ks c) t
              unfolding after_context after_keys
              at_whole h =
                  behind_context ∙ go _ (keys_tidy q.max) m second ks third keyed ∙ go _ (closing_tidy (eqb o.version 1)) m third c t closed ∙ pass 20 _ _ m t framed
                  ∙ pass 22 _ _ m t held ∙ pass 23 _ _ m t h ∙ gives _ m t
