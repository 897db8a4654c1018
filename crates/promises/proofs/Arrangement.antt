-- Calls beside each other keep the promises of joining and dropping, by their contracts and the laws of the definitions. Assumes nothing.
use Prim.Native.Nat.{ℕ, zero, suc, ◌+◌, ◌-◌, ◌≤◌}
use native.Mathlib.Omega.{arith}
use mathlib.Core.Path.{◌≡◌, refl, sym, ap, ap₂, ◌∙◌}
use mathlib.Core.List.{List, [], ◌∷◌, ◌++◌, map}
use lib.Dec.{leb}
use lib.ListN.{length, take, drop}
use lib.Seq.{take_at}
use Rattle.std.specs.Prelude.{Ok, Err}
use Rattle.format.specs.Read.{Answer, accepted, refused, operation}
use Rattle.format.specs.Serialize.{Bytes}
use Rattle.format.specs.Fields.{today, Pair, PairAt, pair_of, HeaderBody, fields_of}
use Rattle.format.specs.Context.{tolerant, read_aad_section, write_aad_pair, write_aad_section}
use Rattle.format.specs.Checks.{check, pairs_checks}
use Rattle.format.specs.Lent.{bytes_at, filled, pairs_in, table_checks, writing_aad_section}
use Rattle.format.specs.OnlyAuthenticated.{write_only_authenticated}
use Rattle.format.specs.Mending.{read_draft, dropped_image}
use Rattle.format.specs.Arrangement.{Rearranged, Accepted, Asked, asks, drop_keys, after_drop, Remains, AllHave, AllHaveEither}
use Rattle.format.proofs.Tests.{leb_is}
use Rattle.format.proofs.Exact.{map_puts}
use Rattle.format.proofs.Context.{Context, context_at, pair_at}
use Rattle.format.proofs.Section.{section_exact}
use Rattle.format.proofs.Firsts.{holds, unheld, split, join}
use Rattle.format.proofs.Accepts.{pairs_then}
use Rattle.format.proofs.Sections.{reads}
use Rattle.format.proofs.Messages.{refused_is_no_accepted}
use Rattle.format.proofs.Mended.{mended_drafts}
use Rattle.format.proofs.EitherOrder.{kept}
use Rattle.format.proofs.Arrangement.{arrangement}
use Rattle.wire.specs.Codes.{because}
use Rattle.checks.specs.Answers.{written_as}
use Rattle.promises.specs.OnlyAuthenticated.{Call, Meets}
use Rattle.promises.specs.Arrangement.{Section, Wrote, front_bytes, entry_bytes, Lends, JoinedCalls, SameRequired, SameBytes, Of, TwoDrops, EitherOrder, AllOfOne, SomeOfBoth, ArrangementPromises}
use Rattle.promises.proofs.Codes.{answering}
use Rattle.promises.proofs.Writer.{by_checks}

-- bytes that stand behind the first k of an image are those of the image, whatever follows it
behind : (k : ℕ) (image rest : List ℕ) → bytes_at (image ++ rest) k (length image - k) ≡ drop k image
behind zero image rest = take_at image rest (length image - 0) (omega arith)
behind (suc k) [] rest = let e : 0 - suc k ≡ 0 = omega arith in rw e refl
behind (suc k) (x ∷ image) rest =
    let e : suc (length image) - suc k ≡ length image - k = omega arith in
    rw e (behind k image rest)

-- SECTIONS. What a call that was accepted says, and what it takes to be
module _ (c : Section) (call : Wrote c) where
  abbrev pairs : List Pair
  pairs = pairs_in c.text c.table

  abbrev image : List ℕ
  image = write_aad_section pairs

  was_accepted : (n : ℕ) → c.answer ≡ Ok n → Accepted pairs × (n ≡ length image) × (c.after ≡ filled image c.before)
  unfolding writing_aad_section
  was_accepted n e =
      let (none_applies, long, out) = (by_checks (writing_aad_section c.text c.table) c.before c.after c.answer call).only_then n e in
      let (checks, fits) = split (table_checks 4 c.text c.table ++ pairs_checks pairs) (check 28 (leb (length image) (length c.before)) ∷ []) (holds _ none_applies) in
      let (of_table, of_pairs) = split (table_checks 4 c.text c.table) (pairs_checks pairs) checks in
      (unheld (pairs_checks pairs) of_pairs, long, out)

  is_accepted : (n : ℕ) → Lends c n → Accepted pairs → length image ≤ n → (c.answer ≡ Ok (length image)) × (c.after ≡ filled image c.before)
  unfolding writing_aad_section
  is_accepted n lends good less =
      let room = lends.room in
      (by_checks (writing_aad_section c.text c.table) c.before c.after c.answer call).writes
      (unheld _ (join (table_checks 4 c.text c.table ++ pairs_checks pairs) _
      (join (table_checks 4 c.text c.table) (pairs_checks pairs) (holds _ lends.table_in_text) (holds (pairs_checks pairs) good))
      (leb_is (length image) (length c.before) (omega arith), tt)))

  entries : (n : ℕ) → n ≡ length image → c.after ≡ filled image c.before → entry_bytes c n ≡ drop 4 image
  entries n e out = rw (out, e) (behind 4 image (drop (length image) c.before))

  front : (n : ℕ) → n ≡ length image → c.after ≡ filled image c.before → front_bytes c n ≡ take 4 image
  front n e out = rw (out, take_at image (drop (length image) c.before) n (sym e)) refl

joined : (joined one two : Section) → Wrote joined → Wrote one → Wrote two
    → pairs_in joined.text joined.table ≡ pairs_in one.text one.table ++ pairs_in two.text two.table
    → (n : ℕ) → joined.answer ≡ Ok n → Lends one n → Lends two n → JoinedCalls joined one two n
joined c one two call call_one call_two are n e lends_one lends_two =
    let (good, long, out) = was_accepted c call n e in
    let law = arrangement.joined (pairs one call_one) (pairs two call_two) (rw are at good) in
    let size : n ≡ length (write_aad_section (pairs one call_one ++ pairs two call_two)) = long ∙ ap (λ ps. length (write_aad_section ps)) are in
    let (w_one, out_one) = is_accepted one call_one n lends_one law.first_accepted (let h = law.first_not_longer in omega arith) in
    let (w_two, out_two) = is_accepted two call_two n lends_two law.second_accepted (let h = law.second_not_longer in omega arith) in
    record {
      first_tail = length (image one call_one);
      second_tail = length (image two call_two);
      first_written = w_one;
      second_written = w_two;
      bytes = entries c call n long out ∙ ap (λ ps. drop 4 (write_aad_section ps)) are ∙ law.in_sections
          ∙ sym (ap₂ (λ a b. a ++ b) (entries one call_one _ refl out_one) (entries two call_two _ refl out_two));
    }

rearranged : (c d : Section) → Wrote c → Wrote d → Rearranged (pairs_in c.text c.table) (pairs_in d.text d.table)
    → (n : ℕ) → c.answer ≡ Ok n → Lends d n → (d.answer ≡ Ok n) × (front_bytes d n ≡ front_bytes c n)
rearranged c d call_c call_d h n e lends =
    let (good, long, out) = was_accepted c call_c n e in
    let law = arrangement.rearranged (pairs c call_c) (pairs d call_d) h good in
    let size : n ≡ length (image d call_d) = long ∙ sym law.section_length in
    let (w, out_d) = is_accepted d call_d n lends law.still_accepted (omega arith) in
    (w ∙ ap Ok (sym size), front d call_d n size out_d ∙ law.in_front ∙ sym (front c call_c n long out))

-- WHAT IS ONLY AUTHENTICATED. Two contracts whose answers are the same but for the tail
module _ (c d : Call) (meets_c : Meets c) (meets_d : Meets d) (o : Answer (List ℕ)) where
  abbrev said : Call → Answer (List ℕ)
  said x = operation (write_only_authenticated x.text x.required (length x.before)) x.message x.start

  beside : said c ≡ o → ((bytes : List ℕ) (t : ℕ) → o ≡ accepted bytes t → (u : ℕ) × (said d ≡ accepted bytes u)) → ((k p : ℕ) → o ≡ refused k p → said d ≡ refused k p) → SameBytes c d
  beside is writes refuses = by o refl
    where
      by : (x : Answer (List ℕ)) → o ≡ x → SameBytes c d
      by (accepted bytes t) e =
          let (u, there) = writes bytes t e in
          let of_c = answering meets_c (is ∙ e) in
          let of_d = answering meets_d there in
          record {
            same_answer = of_c.answer ∙ sym of_d.answer;
            same_bytes = λ n w.
                (let a = of_c.answer in
                let long : length bytes ≡ n = cc in
                rw (of_c.table, of_d.table) (take_at bytes (drop (length bytes) c.before) n long ∙ sym (take_at bytes (drop (length bytes) d.before) n long)));
          }
      by (refused k p) e =
          let a : c.answer ≡ Err (because k p) = (answering meets_c (is ∙ e)).answer in
          record {
            same_answer = a ∙ sym (answering meets_d (refuses k p e)).answer;
            same_bytes = λ n w. cc;
          }

only_authenticated : (c d : Call) → Bytes c.message → Bytes d.message → Meets c → Meets d → (ps qs : List PairAt) (t u : ℕ)
    → operation (read_aad_section tolerant) c.message c.start ≡ accepted ps t → operation (read_aad_section tolerant) d.message d.start ≡ accepted qs u
    → Rearranged (map pair_of ps) (map pair_of qs) → SameRequired c d → SameBytes c d
only_authenticated c d bytes_c bytes_d meets_c meets_d ps qs t u read_c read_d h same =
    let a : Asked = record { message = c.message; start = c.start; pairs = ps; tail = t; text = c.text; required = c.required } in
    let b : Asked = record { message = d.message; start = d.start; pairs = qs; tail = u; text = d.text; required = d.required } in
    let law =
    arrangement.of_sections a b (record { bytes = bytes_c; read = read_c; in_text = same.first_table }) (record { bytes = bytes_d; read = read_d; in_text = same.second_table })
    (record { pairs = h; keys = same.same_keys }) (length c.before) in
    beside c d meets_c meets_d (asks a (length c.before)) refl
    (λ bytes v e. (u, rw (← same.as_long) (law.writes bytes v e)))
    (λ k p e. rw (← same.as_long) (law.refuses k p e))

-- a section that was written is read as its pairs
module _ (c : Section) (call : Wrote c) (x : Call) (is : Of c x) where
  abbrev context : Context
  context = record { form = today; pairs = pairs c call }

  read_back : (n : ℕ) → c.answer ≡ Ok n → operation (read_aad_section tolerant) x.message x.start ≡ accepted (context_at 0 context) (0 + length (image c call))
  read_back n e =
      let (good, long, out) = was_accepted c call n e in
      let (few, each) = pairs_then (pairs c call) (holds (pairs_checks (pairs c call)) good) in
      rw is.start
      (reads (section_exact tolerant) x.message 0 is.addressable (omega arith) context (record { allowed = tt; few = few; each = each }) (drop (length (image c call)) c.before) (is.message ∙ out))

  as_pairs : map pair_of (context_at 0 context) ≡ pairs c call
  as_pairs = map_puts write_aad_pair pair_at pair_of (λ s p. refl) 4 (pairs c call)

of_what_was_written : (c d : Section) → Wrote c → Wrote d → Rearranged (pairs_in c.text c.table) (pairs_in d.text d.table)
    → (n : ℕ) → c.answer ≡ Ok n → d.answer ≡ Ok n → (x y : Call) → Meets x → Meets y → Of c x → Of d y → SameRequired x y → SameBytes x y
of_what_was_written c d call_c call_d h n e f x y meets_x meets_y of_x of_y same =
    only_authenticated x y of_x.bytes of_y.bytes meets_x meets_y _ _ _ _ (read_back c call_c x of_x n e) (read_back d call_d y of_y n f)
    (rw (as_pairs c call_c x of_x, as_pairs d call_d y of_y) h) same

-- DROPS. What the second call says of the first draft
module _ (p q before : List ℕ) (two : TwoDrops p q before) where
  between_is : two.between ≡ after_drop p before
  between_is = two.first_call.buffer

  first_is : two.answer ≡ written_as (drop_keys p before)
  first_is = two.first_call.answer

  then_is : two.then ≡ written_as (drop_keys q (after_drop p before))
  then_is = two.second_call.answer ∙ ap (λ l. written_as (drop_keys q l)) between_is

  after_is : two.after ≡ after_drop q (after_drop p before)
  after_is = two.second_call.buffer ∙ ap (after_drop q) between_is

module _ (p q before : List ℕ) (hb : Bytes before) (b : HeaderBody) (t : ℕ) (e : operation read_draft before 0 ≡ accepted b t) (one : TwoDrops p q before) (other : TwoDrops q p before) where
  either_order : Remains p q (fields_of b).keys → EitherOrder p q before b t one other
  either_order r =
      let law = arrangement.either_order p q before hb b t e r in
      let tail_is = then_is p q before one ∙ ap written_as law.p_first.then in
      record {
        at_first = (first_is p q before one ∙ ap written_as law.p_first.at_first, first_is q p before other ∙ ap written_as law.q_first.at_first);
        tail = tail_is;
        same_tail = tail_is ∙ sym (then_is q p before other ∙ ap written_as law.q_first.then);
        buffer = after_is p q before one ∙ law.p_first.buffer_then;
        same_buffer = after_is p q before one ∙ law.same_buffer ∙ sym (after_is q p before other);
      }

  -- a drop that leaves the buffer gives the tail that there was: the draft there is read as before
  tail_stays : drop_keys q before ≡ accepted (dropped_image q b) t → after_drop q before ≡ before → length (dropped_image q b) ≡ t
  tail_stays said stays =
      let law = mended_drafts.drops q before hb in
      let left = (law.some_remain b t e (λ z. refused_is_no_accepted (sym (law.none_remains b t e z) ∙ said))).1.draft in
      let again : accepted b t ≡ accepted left.body (length (dropped_image q b)) = sym e ∙ ap (λ l. operation read_draft l 0) (sym stays) ∙ left.reads in
      cc

  all_of_one : AllHave p (fields_of b).keys → AllOfOne p q before t one other
  all_of_one a =
      let law = arrangement.all_of_one p q before hb b t e a in
      let stays = law.draft_stays in
      let kept_p : after_drop p before ≡ before = kept p before law.p_refused in
      let again : drop_keys p (after_drop q before) ≡ refused 40 0 = ap (drop_keys p) stays ∙ law.p_refused in
      let then_q : one.then ≡ written_as (drop_keys q before) = then_is p q before one ∙ ap (λ l. written_as (drop_keys q l)) kept_p in
      let first_q : other.answer ≡ written_as (drop_keys q before) = first_is q p before other in
      record {
        p_refused = (first_is p q before one ∙ ap written_as law.p_refused, then_is q p before other ∙ ap written_as again);
        q_refused = λ z.
            (let no : written_as (drop_keys q before) ≡ Err (because 40 0) = ap (λ id. written_as (drop_keys id before)) (sym z) ∙ ap written_as law.p_refused in
            (then_q ∙ no, first_q ∙ no));
        q_absent = λ d.
            (let said = law.q_absent d in
            let yes : written_as (drop_keys q before) ≡ Ok t = ap written_as said ∙ ap Ok (tail_stays said stays) in
            (then_q ∙ yes, first_q ∙ yes));
        buffer_stays = (after_is p q before one ∙ ap (after_drop q) kept_p ∙ stays, after_is q p before other ∙ kept p _ again ∙ stays);
      }

  some_of_both : AllHaveEither p q (fields_of b).keys → (AllHave p (fields_of b).keys → ⊥) → (AllHave q (fields_of b).keys → ⊥) → SomeOfBoth p q before b one other
  some_of_both a not_p not_q =
      let law = arrangement.some_of_both p q before hb b t e a not_p not_q in
      record {
        at_first = (first_is p q before one ∙ ap written_as law.p_first.at_first, first_is q p before other ∙ ap written_as law.q_first.at_first);
        then_refused = (then_is p q before one ∙ ap written_as law.p_first.then, then_is q p before other ∙ ap written_as law.q_first.then);
        first_stays = (
          after_is p q before one ∙ kept q _ law.p_first.then ∙ sym (between_is p q before one),
          after_is q p before other ∙ kept p _ law.q_first.then ∙ sym (between_is q p before other),
        );
        order_shows = λ same. law.order_shows (sym (after_is p q before one) ∙ same ∙ after_is q p before other);
      }

pub arrangement_promises : ArrangementPromises
arrangement_promises =
    record {
      joined = joined;
      rearranged = rearranged;
      only_authenticated = only_authenticated;
      of_what_was_written = of_what_was_written;
      either_order = λ p q before hb b t e r one other. either_order p q before hb b t e one other r;
      all_of_one = λ p q before hb b t e a one other. all_of_one p q before hb b t e one other a;
      some_of_both = λ p q before hb b t e a not_p not_q one other. some_of_both p q before hb b t e one other a not_p not_q;
    }
