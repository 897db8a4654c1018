-- What the reader gave, and what is written of it, are the listing of the message. Assumes nothing.
use mathlib.Core.Path.{◌≡◌, refl, sym, ap, ◌∙◌}
use mathlib.Core.List.{List, [], ◌∷◌, ◌++◌, append_assoc}
use mir.Syntax.{w8}
use mir.Val.{Fits}
use Prim.Native.Nat.{ℕ, ◌*◌, ◌≤◌, ◌<◌}
use native.Mathlib.Nat.{mul-suc}
use native.Mathlib.Omega.{arith, by_contra}
use lib.ListN.{length, get_or, drop, length-append, length-drop, length-map}
use Rattle.format.specs.Read.{accepted, operation}
use Rattle.format.specs.Serialize.{Part, images}
use Rattle.format.specs.Fields.{HeaderBody as BodyRead, pair_of, key_of, pair_places, key_places, fields_of}
use Rattle.format.specs.Context.{tolerant}
use Rattle.format.specs.Keys.{no_max}
use Rattle.format.specs.Body.{either, read_header_body}
use Rattle.format.specs.Lent.{place, filled, pair_numbers, key_numbers}
use Rattle.format.specs.Demand3.{Held, Each, HeldBody}
use Rattle.format.proofs.Messages.{operation_long, refused_is_no_accepted}
use Rattle.format.proofs.Demand3.{demand_3}
use Rattle.std.specs.Prelude.{Result, Ok, Err}
use Rattle.wire.specs.declared.refusals.Refusal.{Refusal}
use Rattle.wire.specs.declared.SuccessfulRead.{SuccessfulRead}
use Rattle.wire.proofs.Answers.{bytes_of, Got, read_got, read_no}
use Rattle.body_reader.specs.Codes.{body_code, ReadsBody}
use Rattle.body_reader.specs.declared.HeaderBody.{HeaderBody}
use Rattle.listing_text.specs.Listing.{lines, word_id, word_pair, word_key, header_line, part_line, data_line, body_listing, refusal_listing, as_listed, listing}
use Rattle.listing_text.specs.Answers.{Lists, front_text, data_text, BodyThere, Reading}
use Rattle.text.specs.Put.{All, ItemThere, items_text}
use Rattle.listing_text.proofs.Tables.{there_is, places_long, Lined, items_stand}

regroup : (a b c d e : List ℕ) → (a ++ b) ++ ((c ++ d) ++ e) ≡ a ++ (b ++ (c ++ (d ++ e)))
regroup a b c d e = simp append_assoc

-- the text of an accepted header, by its tables
unfoldable pub body_text : List ℕ → HeaderBody → ℕ → List ℕ → List ℕ → List ℕ
body_text m b tail pairs keys =
    front_text m b tail ++ ((items_text m pairs word_pair 2 b.pairCount ++ items_text m keys word_key 3 b.keyCount) ++ data_text m b.numbers.version b.suiteDataStart b.suiteDataLen)

-- a table of n numbers a part and 2 parts a pair, or 3 a key
parts_count : {A : Type 0} (parts : A → List Part) (n : ℕ) → ((x : A) → length (parts x) ≡ n) → (xs : List A) → length (images parts xs) ≡ n * length xs
unfolding images
parts_count parts n sized [] = omega arith
parts_count parts n sized (x ∷ xs) = let e = parts_count parts n sized xs in rw (length-append, mul-suc, sized x) (omega arith)

-- the table has the numbers of few items of n parts, and the message their bytes
pub record TableThere (m table : List ℕ) (n count : ℕ) : Type 0 where
  pub few : count ≤ 2048
  pub numbers : (n * count ≤ 2048) × (2 * (n * count) ≤ length table)
  pub there : All (ItemThere m table n) (2 * n) count 0

module _ (m before table : List ℕ) (room : length before ≡ 4096) {A : Type 0} (word : List ℕ) (parts : A → List Part) (n : ℕ) (sized : (x : A) → length (parts x) ≡ n) (some : 0 < n) (xs : List A)
    (is : table ≡ filled (images place (images parts xs)) before) (fits : 2 * (n * length xs) ≤ 4096) (held : Each (Held m) (images parts xs)) where
  lined : Lined m table word parts n sized some xs 0
  lined = items_stand m table word parts n sized some xs 0 (drop (length (images place (images parts xs))) before) is held

  long : length table ≡ 4096
  long =
      let c = places_long (images parts xs) in
      let d = parts_count parts n sized xs in
      ap length is ∙ rw (length-append, length-drop) (omega arith)

  table_there : TableThere m table n (length xs)
  table_there = record { few = grind (arith, fits, some); numbers = (omega arith, omega (arith, long)); there = record { each = lined.there } }

  table_text : items_text m table word n (length xs) ≡ lines word parts xs
  table_text = lined.text

-- an accepted header
pub few_bytes : (m : List ℕ) (b : BodyRead) (t : ℕ) → as_listed m 0 ≡ accepted b t → length m ≤ 4294967295
few_bytes m b t e = by_contra (length m) 4294967295 (λ h. refused_is_no_accepted (sym (operation_long _ m 0 h) ∙ e))

module _ (m : List ℕ) (a : Result (SuccessfulRead HeaderBody) Refusal) (pairs keys : List ℕ) (w : Reading m a pairs keys) where
  module _ (b : BodyRead) (t : ℕ) (e : as_listed m 0 ≡ accepted b t) where
    held : HeldBody m b
    held = ((demand_3.sentence_1 no_max 4096 4096 m 0 w.bytes).only (few_bytes m b t e) b t e).3.placed

    pairs_fit : 2 * (2 * length b.pairs) ≤ 4096
    unfolding fields_of
    pairs_fit =
        let z = (demand_3.sentence_1 no_max 4096 4096 m 0 w.bytes).only (few_bytes m b t e) b t e in
        let n : length z.1.pairs ≡ length b.pairs = rw (← z.3.fields) (length-map b.pairs pair_of) in
        omega (arith, z.2.pairs_held)

    keys_fit : 2 * (3 * length b.keys) ≤ 4096
    unfolding fields_of
    keys_fit =
        let z = (demand_3.sentence_1 no_max 4096 4096 m 0 w.bytes).only (few_bytes m b t e) b t e in
        let n : length z.1.keys ≡ length b.keys = rw (← z.3.fields) (length-map b.keys key_of) in
        omega (arith, z.2.keys_held)

    pair_table : pairs ≡ filled (pair_numbers b.pairs) w.pairsBefore
    pair_table = rw e at w.reads.pairTable

    key_table : keys ≡ filled (key_numbers b.keys) w.keysBefore
    key_table = rw e at w.reads.keyTable

    body_there : BodyThere m (body_code b)
    body_there =
        record {
          short = omega (arith, few_bytes m b t e);
          messageId = there_is m b.messageId held.messageId;
          suiteData = there_is m b.suiteData held.suiteData;
        }

    tables_there : TableThere m pairs 2 (length b.pairs) × TableThere m keys 3 (length b.keys)
    tables_there = (
      table_there m w.pairsBefore pairs w.pairRoom word_pair pair_places 2 (λ x. refl) (omega arith) b.pairs pair_table pairs_fit held.pairs,
      table_there m w.keysBefore keys w.keyRoom word_key key_places 3 (λ x. refl) (omega arith) b.keys key_table keys_fit held.keys,
    )

    body_is : body_text m (body_code b) t pairs keys ≡ listing m
    unfolding body_text front_text data_text listing body_listing
    body_is =
        let p = table_text m w.pairsBefore pairs w.pairRoom word_pair pair_places 2 (λ x. refl) (omega arith) b.pairs pair_table pairs_fit held.pairs in
        let k = table_text m w.keysBefore keys w.keyRoom word_key key_places 3 (λ x. refl) (omega arith) b.keys key_table keys_fit held.keys in
        rw (held.messageId, held.suiteData, p, k, e)
        (regroup (header_line b t) (part_line word_id b.messageId) (lines word_pair pair_places b.pairs) (lines word_key key_places b.keys) (data_line b))

  module _ (r : SuccessfulRead HeaderBody) (f : a ≡ Ok r) where
    got : Got body_code (as_listed m 0) r
    got = read_got body_code (as_listed m 0) a w.reads.answer r f

    pub answer_there : BodyThere m r.value
    answer_there = rw got.gives at (body_there got.item r.tail got.is)

    pub answer_tables : TableThere m pairs 2 r.value.pairCount × TableThere m keys 3 r.value.keyCount
    answer_tables = rw (← got.gives) (tables_there got.item r.tail got.is)

    pub answer_listed : (d o : List ℕ) (x : Result ℕ Refusal) → Lists (body_text m r.value r.tail pairs keys) d o x → Lists (listing m) d o x
    answer_listed d o x l = rw (← body_is got.item r.tail got.is, got.gives) l

  pub refusal_listed : (q : Refusal) → a ≡ Err q → (d o : List ℕ) (x : Result ℕ Refusal) → Lists (refusal_listing q.number q.position) d o x → Lists (listing m) d o x
  unfolding listing
  refusal_listed q f d o x l = rw (read_no body_code (as_listed m 0) a w.reads.answer q f) l

pub reading_is : (m : List ℕ) (a : Result (SuccessfulRead HeaderBody) Refusal) (p p' k k' : List ℕ) → length p ≡ 4096 → length k ≡ 4096 → ((i : ℕ) → Fits w8 (get_or m i 0))
    → ReadsBody (operation (read_header_body either tolerant no_max (length p) (length k)) m 0) p p' k k' a → Reading m a p' k'
reading_is m a p p' k k' ep ek h r =
    record { pairsBefore = p; keysBefore = k; pairRoom = ep; keyRoom = ek; bytes = bytes_of m h; reads = rw (ep, ek) at r }
