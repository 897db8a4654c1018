-- Ours beside the source's reading, operation by operation. Assumes nothing.
use mathlib.Core.Path.{◌≡◌, refl, sym, ap, ◌∙◌}
use mathlib.Core.Bool.{Bool, true, false}
use mathlib.Core.Logic.{inl, inr}
use mathlib.Core.List.{List, [], ◌∷◌}
use Prim.Native.Nat.{ℕ}
use native.Mathlib.Omega.{arith}
use lib.ListN.{drop}
use Rattle.format.specs.Read.{ReadResult, success, more_needed, error, Reader, Answer, refused, answer, at, addressable, operation}
use Rattle.format.specs.Serialize.{Bytes}
use Rattle.format.specs.Context.{tolerant}
use Rattle.format.specs.Lent.{table_after}
use Rattle.format.specs.Lengths.{JustWhere}
use Rattle.format.specs.Refusals.{section_refusals, key_section_refusals, context_refusals, find_refusals, only_authenticated_refusals, keys_refusals, body_refusals, RefusesBy}
use Rattle.format.specs.SourceEquality.{NoKeyAt, NoKeyIn, Beside, BesideContext, SourceEquality}
use Rattle.format.proofs.Messages.{bytes_drop, refused_is_no_accepted}
use Rattle.format.proofs.Members.{has, has_neither}
use Rattle.format.proofs.Listed.{never_listed, body_without_13, section_without, refusals}
use Rattle.format.proofs.Helps.{section_wants}
use Rattle.format.proofs.SourceListed.{Neither, into_neither, find_neither, only_authenticated_neither, keys_neither, body_neither}
use Rattle.format.proofs.BothRead.{AlikeButKeys, BothReadKeys, without_keys, into_both, find_both, only_authenticated_both, keys_into_both, body_both}
use Rattle.format.proofs.SourceWritten.{keys_written, body_written, no_keys_written}
use Rattle.format.proofs.NoKey.{no_key_at, no_keys, no_key_in, no_keys_in}

-- ours answers as the source's reading does; or 32, and the source's refuses; or 38, and the source's does not answer 13
data AnswerAlike {A : Type 0} (o o' : Answer A) : Type 0 where
  the_same : o ≡ o' → AnswerAlike o o'
  by_32 : o ≡ refused 32 0 → (k p : ℕ) → o' ≡ refused k p → AnswerAlike o o'
  by_38 : o ≡ refused 38 0 → ((p : ℕ) → o' ≡ refused 13 p → ⊥) → AnswerAlike o o'

module _ {A : Type 0} where
  answers : (x y : ReadResult A) → AlikeButKeys x y → AnswerAlike (answer x) (answer y)
  answers x y (inl (inl q)) = the_same (ap answer q)
  answers x (success a l t) (inl (inr (q, p))) = absurd p
  answers x (more_needed w) (inl (inr (q, p))) = by_32 (rw q refl) 2 w refl
  answers x (error k) (inl (inr (q, p))) = by_32 (rw q refl) k 0 refl
  answers x y (inr (q, n)) = by_38 (rw q refl) n

  operations : {r r' : Reader A} → BothReadKeys r r' → (m : List ℕ) (s : ℕ) → Bytes m → AnswerAlike (operation r m s) (operation r' m s)
  unfolding operation at
  operations {r} {r'} h m s hb = by (addressable m s)
    where
      by : (b : Bool) → AnswerAlike {A = A} (elim b as (λ x. Answer A) [ true ↦ answer (r (drop s m) s) | false ↦ refused 1 0 ]) (elim b as (λ x. Answer A) [ true ↦ answer (r' (drop s m) s) | false ↦ refused 1 0 ])
      by true = answers (r (drop s m) s) (r' (drop s m) s) (h.alike (drop s m) s (bytes_drop s m hb))
      by false = the_same refl

  other_number : {C : Type 0} {o : Answer A} {j k p q : ℕ} → o ≡ refused j p → o ≡ refused k q → (j ≡ k → ⊥) → C
  other_number {j = j} {k = k} {p = p} {q = q} e f differ =
      let z : ◌≡◌ {A = Answer A} (refused j p) (refused k q) = sym e ∙ f in
      let w : j ≡ k = cc in
      absurd (differ w)

  module _ (no_key : Type 0) (o o' : Answer A) (there : JustWhere (o ≡ refused 38 0) no_key) (never : (p : ℕ) → o ≡ refused 13 p → ⊥)
      (never_32 : (p : ℕ) → o' ≡ refused 32 p → ⊥) (never_38 : (p : ℕ) → o' ≡ refused 38 p → ⊥) where
    beside : AnswerAlike o o' → Beside no_key o o'
    beside (the_same q) =
        record {
          alike = λ no none. q;
          no_key_there = there;
          both_refuse = λ p e. absurd (never_32 p (sym q ∙ e));
          source_never_32 = never_32;
          source_never_38 = never_38;
          accepts = λ a t. record { onward = λ e. (sym q ∙ e, λ none. refused_is_no_accepted (sym (there.back none) ∙ e)); back = λ e. q ∙ e.0 };
          table = λ some numbers table. ap (λ x. table_after numbers x table) q;
          never_13 = never;
          for_13 = λ p e. absurd (never p (q ∙ e));
        }
    beside (by_32 q k p r) =
        record {
          alike = λ no none. absurd (no 0 q);
          no_key_there = there;
          both_refuse = λ w e. (k, p, r);
          source_never_32 = never_32;
          source_never_38 = never_38;
          accepts = λ a t. record { onward = λ e. refused_is_no_accepted (sym q ∙ e); back = λ e. refused_is_no_accepted (sym r ∙ e.0) };
          table = λ some numbers table. rw (q, r) refl;
          never_13 = never;
          for_13 = λ w e. q;
        }
    beside (by_38 q n) =
        record {
          alike = λ no none. absurd (none q);
          no_key_there = there;
          both_refuse = λ p e. other_number q e (λ z. omega arith);
          source_never_32 = never_32;
          source_never_38 = never_38;
          accepts = λ a t. record { onward = λ e. refused_is_no_accepted (sym q ∙ e); back = λ e. absurd (e.1 (there.onward q)) };
          table = λ some numbers table. absurd (some (there.onward q));
          never_13 = never;
          for_13 = λ p e. absurd (n p e);
        }

  beside_context : {r r' : Reader A} (ks : List ℕ) → has ks 13 ≡ false → has ks 38 ≡ false → RefusesBy (1 ∷ 2 ∷ ks) r → Neither r' → BothReadKeys r r' → (m : List ℕ) (s : ℕ) → Bytes m
      → BesideContext (operation r m s) (operation r' m s)
  beside_context {r} {r'} ks no_13 no_38 h n b m s hb =
      beside ⊥ _ _ (record { onward = never_listed 38 ks no_38 r h m s 0; back = λ e. absurd e }) (never_listed 13 ks no_13 r h m s) (n.never_32 m s) (n.never_38 m s) (operations b m s hb)

pub source_equality : SourceEquality
unfolding context_refusals find_refusals only_authenticated_refusals key_section_refusals keys_refusals body_refusals
source_equality =
    record {
      of_context = λ mode room.
          beside_context _ (has_neither (section_refusals mode) (22 ∷ []) 13 (section_without mode).1 refl) (has_neither (section_refusals mode) (22 ∷ []) 38 (section_without mode).2 refl) (refusals.of_context mode room) (into_neither mode room) (without_keys (into_both mode room));
      of_find = λ k.
          beside_context _ (has_neither (section_refusals tolerant) (29 ∷ []) 13 (section_without tolerant).1 refl) (has_neither (section_refusals tolerant) (29 ∷ []) 38 (section_without tolerant).2 refl) (refusals.of_find k) (find_neither k) (without_keys (find_both k));
      of_only_authenticated = λ text required room.
          beside_context _ (has_neither (section_refusals tolerant) (31 ∷ 28 ∷ []) 13 (section_without tolerant).1 refl) (has_neither (section_refusals tolerant) (31 ∷ 28 ∷ []) 38 (section_without tolerant).2 refl) (refusals.of_only_authenticated text required room) (only_authenticated_neither text required room) (without_keys (only_authenticated_both text required room));
      of_keys = λ max room m s hb.
          beside (NoKeyAt m s) _ _ (no_key_at max room m s) (never_listed 13 _ refl _ (refusals.of_keys max room) m s) ((keys_neither max room).never_32 m s) ((keys_neither max room).never_38 m s) (operations (keys_into_both max room) m s hb);
      of_body = λ q m s hb.
          beside (NoKeyIn q m s) _ _ (no_key_in q m s) (never_listed 13 _ (body_without_13 q (section_refusals q.mode) key_section_refusals (section_without q.mode).1 refl) _ (refusals.of_body q) m s) ((body_neither q).never_32 m s) ((body_neither q).never_38 m s) (operations (body_both q) m s hb);
      no_keys = no_keys;
      no_keys_in = no_keys_in;
      keys_written = keys_written;
      body_written = body_written;
      no_keys_written = no_keys_written;
      wants = section_wants;
    }
