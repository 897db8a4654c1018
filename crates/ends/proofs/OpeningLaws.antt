-- The ways out of the function that reads an opening, one law each. Assumes nothing.
use Prim.Native.Nat.{ℕ}
use mathlib.Core.Path.{◌≡◌, sym, ap, ◌∙◌}
use mathlib.Core.Bool.{Bool, true, false}
use mathlib.Core.List.{List}
use Rattle.std.specs.Prelude.{Result, Ok, Err}
use Rattle.format.specs.Read.{◌>>=◌, return, at}
use Rattle.format.specs.Serialize.{read}
use Rattle.format.specs.Shared.{id_length}
use Rattle.format.specs.Policies.{lets_read}
use Rattle.format.specs.Body.{read_lead, after_lead, read_opening}
use Rattle.steps.proofs.Tidy.{read_tidy}
use Rattle.steps.proofs.Steps.{go, stop, pass, fail, gives}
use Rattle.wire.specs.Codes.{because, span_of}
use Rattle.wire.specs.declared.refusals.Refusal.{Refusal}
use Rattle.wire.specs.declared.SuccessfulRead.{SuccessfulRead}
use Rattle.wire.specs.declared.Span.{Span}
use Rattle.wire.proofs.Answers.{Got, read_got, read_no, span_got, span_no}
use Rattle.request.specs.Codes.{which_of, policy_of}
use Rattle.request.specs.declared.Which.{Which}
use Rattle.request.specs.declared.Policy.{Policy}
use Rattle.ends.specs.Codes.{lead_code, lead_of, opening_of}
use Rattle.ends.specs.declared.Lead.{Lead}
use Rattle.ends.specs.declared.Opening.{Opening}
use Rattle.ends.proofs.Tidy.{lead_tidy}

abbrev Answer : Type 0
Answer = Result (SuccessfulRead Opening) Refusal

module _ (which : Which) (policy : Policy) (m : List ℕ) (s : ℕ) (x : Result (SuccessfulRead Lead) Refusal) (x_is : x ≡ lead_of (at (read_lead (which_of which)) m s)) where
  pub no_lead : (q : Refusal) → x ≡ Err q → ◌≡◌ {A = Answer} (Err q) (opening_of (at (read_opening (which_of which) (policy_of policy)) m s))
  unfolding read_opening
  no_lead q b = rw (stop _ (lead_tidy (which_of which)) m s _ _ (read_no lead_code (at (read_lead (which_of which)) m s) x x_is q b))

  module _ (r : SuccessfulRead Lead) (b : x ≡ Ok r) (c : Bool) (c_is : c ≡ lets_read (policy_of policy) r.value.version) where
    had : Got lead_code (at (read_lead (which_of which)) m s) r
    had = read_got lead_code (at (read_lead (which_of which)) m s) x x_is r b

    version_of : had.item.version ≡ r.value.version
    version_of = ap (λ (y : Lead). y.version) had.gives

    after : at (read_opening (which_of which) (policy_of policy)) m s ≡ at (after_lead (policy_of policy) had.item) m r.tail
    unfolding read_opening
    after = go _ (lead_tidy (which_of which)) m s had.item r.tail had.is

    pub opening_39 : c ≡ false → (q : Refusal) → q ≡ because 39 0 → ◌≡◌ {A = Answer} (Err q) (opening_of (at (read_opening (which_of which) (policy_of policy)) m s))
    unfolding after_lead
    opening_39 e q f = rw (f, after, fail 39 _ _ m r.tail (ap (lets_read (policy_of policy)) version_of ∙ sym c_is ∙ e))

    module _ (e : c ≡ true) (size : ℕ) (size_is : size ≡ id_length r.value.version) (y : Result Span Refusal) (y_is : y ≡ span_of (at (read size) m r.tail)) where
      on : at (read_opening (which_of which) (policy_of policy)) m s
          ≡ at (read (id_length had.item.version) >>= λ id. return (record { version = had.item.version; messageType = had.item.messageType; suite = had.item.suite; messageId = id })) m r.tail
      unfolding after_lead
      on = rw (after, pass 39 _ _ m r.tail (ap (lets_read (policy_of policy)) version_of ∙ sym c_is ∙ e))

      long : id_length had.item.version ≡ size
      long = ap id_length version_of ∙ sym size_is

      pub no_id : (q : Refusal) → y ≡ Err q → ◌≡◌ {A = Answer} (Err q) (opening_of (at (read_opening (which_of which) (policy_of policy)) m s))
      no_id q d = rw (on, long, stop _ (read_tidy size) m r.tail _ _ (span_no (at (read size) m r.tail) y y_is q d))

      pub whole : (id : Span) → y ≡ Ok id
          → ◌≡◌ {A = Answer} (Ok (record { value = record { version = r.value.version; messageType = r.value.messageType; suite = r.value.suite; messageIdStart = id.start; messageIdLen = id.len }; tail = id.tail })) (opening_of (at (read_opening (which_of which) (policy_of policy)) m s))
      whole id d =
          let g = span_got (at (read size) m r.tail) y y_is id d in
          ap (λ (z : Lead). Ok (record { value = record { version = z.version; messageType = z.messageType; suite = z.suite; messageIdStart = id.start; messageIdLen = id.len }; tail = id.tail })) (sym had.gives)
          ∙ sym (rw (on, long, go _ (read_tidy size) m r.tail g.item id.tail g.is, gives _ m id.tail, g.from, g.long))
