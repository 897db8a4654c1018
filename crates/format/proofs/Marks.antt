-- The mark that a reader gives. A body that the tolerant reader marks today's is one that the strict reader accepts, and one marked old is
-- not; and those are told by whether the section reached is 00 02 00 00. Assumes nothing.
use mathlib.Core.Path.{◌≡◌, refl, sym, ap, ◌∙◌}
use mathlib.Core.Bool.{Bool, true, false, cond}
use mathlib.Core.List.{List, [], ◌∷◌}
use Prim.Native.Nat.{ℕ}
use lib.ListN.{length, drop}
use Rattle.format.specs.Read.{Answer, accepted, refused, operation}
use Rattle.format.specs.Serialize.{Bytes}
use Rattle.format.specs.Fields.{Form, today, old, Pair, HeaderBody}
use Rattle.format.specs.Context.{Mode, tolerant, strict}
use Rattle.format.specs.Keys.{Max}
use Rattle.format.specs.Policies.{no_policy}
use Rattle.format.specs.Body.{Which, Request, request, tests_frames, read_body, read_header_body_under, read_header_body}
use Rattle.format.specs.Checks.{fits_form}
use Rattle.format.specs.Demand3.{reaches_old, Marks}
use Rattle.format.specs.Sections.{Allowed}
use Rattle.format.proofs.Exact.{Took, puts}
use Rattle.format.proofs.Marked.{old_has_none}
use Rattle.format.proofs.Body.{Sent, BodyOk, sent_bytes, body_at, body_exact}
use Rattle.format.proofs.Messages.{operation_here, cases, refused_is_no_accepted, accepted_took}
use Rattle.format.proofs.Strict.{sentence_2}

-- a mark that fits, with and without a pair, and strictly
never_old : (form : Form) (ps : List Pair) → fits_form form (length ps) ≡ true → Allowed strict form ps → form ≡ today
never_old today ps e a = refl
never_old old [] e a = absurd a
never_old old (p ∷ ps) e a = old_has_none p ps e

paired : (form : Form) (ps : List Pair) → fits_form form (length ps) ≡ true → (ps ≡ [] → ⊥) → form ≡ today
paired today ps e h = refl
paired old [] e h = absurd (h refl)
paired old (p ∷ ps) e h = old_has_none p ps e

module _ (which : Which) (max : Max) (pairRoom keyRoom : ℕ) (m : List ℕ) (s : ℕ) (hb : Bytes m) where
  abbrev asks : Mode → Request
  asks mode = request which mode (tests_frames which) max pairRoom keyRoom

  abbrev said : Mode → Answer HeaderBody
  said mode = operation (read_header_body which mode max pairRoom keyRoom) m s

  -- what was read: a value, and the bytes behind its image
  abbrev Read : Mode → HeaderBody → ℕ → Type 0
  Read mode b t = (l : List ℕ) × Took (BodyOk (asks mode)) sent_bytes body_at (drop s m) s b l t

  read : (mode : Mode) (b : HeaderBody) (t : ℕ) → said mode ≡ accepted b t → Read mode b t
  unfolding read_header_body_under
  read mode b t e = accepted_took (body_exact (asks mode)) m s hb b t e

  form_is : (mode : Mode) (b : HeaderBody) (t : ℕ) (x : Read mode b t) → b.form ≡ x.1.value.form
  form_is mode b t x = ap (λ (y : HeaderBody). y.form) x.1.placed

  with_a_pair : (mode : Mode) (b : HeaderBody) (t : ℕ) → Read mode b t → (b.pairs ≡ [] → ⊥) → b.form ≡ today
  unfolding puts
  with_a_pair mode b t x h =
      form_is mode b t x ∙ paired x.1.value.form x.1.value.fields.pairs x.1.good.context.fits (λ e. h (ap (λ (y : HeaderBody). y.pairs) x.1.placed ∙ rw e refl))

  strictly : (b : HeaderBody) (t : ℕ) → Read strict b t → b.form ≡ today
  strictly b t x = form_is strict b t x ∙ never_old x.1.value.form x.1.value.fields.pairs x.1.good.context.fits x.1.good.context.section.allowed

  -- marked today's, it is accepted by the strict reader too
  today_strict : (x : Sent) → x.form ≡ today → BodyOk (asks tolerant) x → BodyOk (asks strict) x
  today_strict x e o =
      let a : Allowed strict x.form x.fields.pairs = rw e tt in
      record {
        top = o.top;
        context = record { section = record { allowed = a; few = o.context.section.few; each = o.context.section.each }; fits = o.context.fits };
        keys = o.keys;
        end = o.end;
        t20 = o.t20;
        t22 = o.t22;
        t23 = o.t23;
      }

  accepted_strict : (b : HeaderBody) (t : ℕ) → said tolerant ≡ accepted b t → Read tolerant b t → b.form ≡ today → said strict ≡ accepted b t
  unfolding read_header_body_under
  accepted_strict b t e x f =
      let ok = today_strict x.1.value (sym (form_is tolerant b t x) ∙ f) x.1.good in
      cases (read_body (asks tolerant)) m s (λ no. refused_is_no_accepted (sym no ∙ e)) (λ h k is.
      rw (operation_here (read_body (asks strict)) m s h k, x.1.split, (body_exact (asks strict)).complete x.1.value s x.0 ok, x.1.placed, x.1.tail) refl)

  by_the_section : (mode : Mode) (b : HeaderBody) (t : ℕ) → said mode ≡ accepted b t → b.form ≡ cond (reaches_old no_policy which m s) old today
  by_the_section mode b t e = by mode (reaches_old no_policy which m s) refl e b.form refl
    where
      answers : said strict ≡ cond (reaches_old no_policy which m s) (refused 21 0) (said tolerant)
      answers = (sentence_2 no_policy which max pairRoom keyRoom m s hb).answers

      by : (mode : Mode) (r : Bool) → reaches_old no_policy which m s ≡ r → said mode ≡ accepted b t → (form : Form) → b.form ≡ form → form ≡ cond r old today
      by tolerant true q e today f = refused_is_no_accepted (sym (rw q at answers) ∙ accepted_strict b t e (read tolerant b t e) f)
      by tolerant true q e old f = refl
      by tolerant false q e form f = sym f ∙ strictly b t (read strict b t ((rw q at answers) ∙ e))
      by strict true q e form f = refused_is_no_accepted (sym (rw q at answers) ∙ e)
      by strict false q e form f = sym f ∙ strictly b t (read strict b t e)

pub marks : (which : Which) (mode : Mode) (max : Max) (pairRoom keyRoom : ℕ) (m : List ℕ) (s : ℕ) → Bytes m
    → (b : HeaderBody) (t : ℕ) → operation (read_header_body which mode max pairRoom keyRoom) m s ≡ accepted b t → Marks which mode m s b
marks which mode max pairRoom keyRoom m s hb b t e =
    record {
      by_the_section = by_the_section which max pairRoom keyRoom m s hb mode b t e;
      with_a_pair = with_a_pair which max pairRoom keyRoom m s hb mode b t (read which max pairRoom keyRoom m s hb mode b t e);
      strictly = λ k. strictly which max pairRoom keyRoom m s hb b t (read which max pairRoom keyRoom m s hb strict b t (rw k at e));
    }
