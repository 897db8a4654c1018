-- A listing is at most twice as long as its message, but for 28 characters: each line against the bytes that it shows. Assumes nothing.
use mathlib.Core.Path.{◌≡◌, refl, sym, ap, ◌∙◌}
use mathlib.Core.Bool.{Bool, true, false, cond, ◌||◌}
use mathlib.Core.Logic.{⊎_elim}
use mathlib.Core.List.Memᴰ
use mathlib.Core.List.{List, [], ◌∷◌, map, Memᴰ}
use Prim.Native.Nat.{ℕ, ◌+◌, ◌*◌, ◌≤◌, ◌<◌}
use native.Mathlib.Omega.{arith, by_contra}
use lib.Dec.{ltb, eqb}
use borrow.Author.Tests.{ltb-true, eqb-false}
use lib.ListN.{length, length-append}
use Rattle.format.specs.Read.{Answer, accepted, refused, operation}
use Rattle.format.specs.Serialize.{Bytes, Part, images, every}
use Rattle.format.specs.Shared.{one_or_two}
use Rattle.format.specs.Fields.{Form, today, old, Pair, EncryptedDataKey, Fields, PairAt, EncryptedDataKeyAt, HeaderBody, pair_of, key_of, pair_places, key_places, fields_of}
use Rattle.format.specs.Context.{tolerant, write_aad_pair, write_aad_pairs, write_aad_section, section_in}
use Rattle.format.specs.Keys.{no_max, write_encrypted_data_key, write_encrypted_data_keys, write_encrypted_data_keys_section}
use Rattle.format.specs.Body.{either, Request, request, read_body, read_header_body_under, write_opening_of, write_closing_of, image}
use Rattle.format.specs.Refusals.{lead_refusals, forbidden_refusals, passing, numbers_behind, opening_refusals, section_refusals, reserved_refusals, frame_refusals, room_refusals, closing_refusals, key_section_refusals, body_refusals, Refusal}
use Rattle.format.specs.Demand3.{mark_by}
use Rattle.format.proofs.Tests.{is_eqb}
use Rattle.format.proofs.Serialize.{length_uint16, length_uint32, length_entry}
use Rattle.format.proofs.Context.{length_pair, length_pairs, length_expanded}
use Rattle.format.proofs.Accepts.{good}
use Rattle.format.proofs.Firsts.{both}
use Rattle.format.proofs.Messages.{operation_long}
use Rattle.format.proofs.Listed.{refusals}
use Rattle.format.proofs.Wanted.{nearness}
use Rattle.format.proofs.Demand3.{demand_3}
use Rattle.text.specs.Text.{line}
use Rattle.listing_text.specs.Listing.{hex_field, lines, word_id, word_pair, word_key, word_data, header_line, part_line, body_listing, refusal_listing, listing_of, as_listed, listing}
use Rattle.listing_text.specs.Bound.{ListingFits}
use Rattle.text.proofs.Decimals.{decimal_few}
use Rattle.listing_text.proofs.Joint.{few_bytes}
use Rattle.text.proofs.Sizes.{hex_long, field_long, line_long}
use Rattle.listing_text.proofs.SizeLaws.{header_long, refusal_long}

-- a line for each item, and the item's bytes
hex_field_long : (p : Part) → length (hex_field p) ≡ 1 + 2 * length p.bytes
hex_field_long p = rw (field_long, hex_long)

lines_short : {A B : Type 0} (f : A → List ℕ) (g : B → List ℕ) (of : A → B) → ((x : A) → length (f x) ≤ 2 * length (g (of x))) → (xs : List A) → length (images f xs) ≤ 2 * length (images g (map of xs))
unfolding images
lines_short f g of h [] = omega arith
lines_short f g of h (x ∷ xs) = let a = h x in let b = lines_short f g of h xs in rw (length-append (f x), length-append (g (of x))) (omega arith)

pair_line : (p : PairAt) → length (line word_pair (images hex_field (pair_places p))) ≤ 2 * length (write_aad_pair (pair_of p))
unfolding images
pair_line p =
    let a = hex_field_long p.key in
    let b = hex_field_long p.value in
    let c = length_pair (pair_of p) in
    simp (line_long, length-append) (omega arith)

pairs_short : (ps : List PairAt) → length (lines word_pair pair_places ps) ≤ 2 * length (write_aad_pairs (map pair_of ps))
unfolding lines write_aad_pairs
pairs_short ps = lines_short _ write_aad_pair pair_of pair_line ps

length_key : (k : EncryptedDataKey) → length (write_encrypted_data_key k) ≡ 6 + length k.keyProviderId + length k.keyProviderInfo + length k.ciphertext
unfolding write_encrypted_data_key
length_key k = simp (length-append, length_entry) (omega arith)

key_line : (k : EncryptedDataKeyAt) → length (line word_key (images hex_field (key_places k))) ≤ 2 * length (write_encrypted_data_key (key_of k))
unfolding images
key_line k =
    let a = hex_field_long k.keyProviderId in
    let b = hex_field_long k.keyProviderInfo in
    let c = hex_field_long k.ciphertext in
    let d = length_key (key_of k) in
    simp (line_long, length-append) (omega arith)

keys_short : (ks : List EncryptedDataKeyAt) → length (lines word_key key_places ks) ≤ 2 * length (write_encrypted_data_keys (map key_of ks))
unfolding lines write_encrypted_data_keys
keys_short ks = lines_short _ write_encrypted_data_key key_of key_line ks

-- the sections have their pairs and keys behind two bytes at least
section_long : (form : Form) (ps : List Pair) → 2 + length (write_aad_pairs ps) ≤ length (section_in form ps)
unfolding write_aad_section write_aad_pairs images
section_long today [] = rw length_uint16 (omega arith)
section_long today (p ∷ ps) = let e = length_expanded (p ∷ ps) in let d = length_pairs (p ∷ ps) in omega arith
section_long old ps = let e = length_expanded ps in let d = length_pairs ps in omega arith

keys_long : (ks : List EncryptedDataKey) → length (write_encrypted_data_keys_section ks) ≡ 2 + length (write_encrypted_data_keys ks)
unfolding write_encrypted_data_keys_section
keys_long ks = simp (length-append, length_uint16) (omega arith)

-- before and behind the sections
opening_long : (v1 : Bool) (messageType suite : ℕ) (messageId : List ℕ) → 2 + length messageId ≤ length (write_opening_of v1 messageType suite messageId)
unfolding write_opening_of
opening_long true messageType suite messageId = simp (length-append, length_uint16) (omega arith)
opening_long false messageType suite messageId = simp (length-append, length_uint16) (omega arith)

part_line_long : (word : List ℕ) (p : Part) → length (part_line word p) ≡ length word + 2 + 2 * length p.bytes
part_line_long word p = let a = hex_field_long p in rw line_long (omega arith)

data_short : (version iv frame : ℕ) (p : Part) → length (cond (eqb version 2) (part_line word_data p) []) + 2 ≤ 2 * length (write_closing_of (eqb version 1) iv frame p.bytes)
unfolding write_closing_of
data_short version iv frame p = go (eqb version 1) (eqb version 2) refl refl
  where
    go : (a b : Bool) → eqb version 1 ≡ a → eqb version 2 ≡ b → length (cond b (part_line word_data p) []) + 2 ≤ 2 * length (write_closing_of a iv frame p.bytes)
    go true true e f = let x : version ≡ 1 = is_eqb _ _ e in let y : version ≡ 2 = is_eqb _ _ f in absurd (omega arith)
    go true false e f = simp (length-append, length_uint32) (omega arith)
    go false true e f = let d = part_line_long word_data p in simp (length-append, length_uint32) (omega arith)
    go false false e f = simp (length-append, length_uint32) (omega arith)

small_version : (version : ℕ) → one_or_two version ≡ true → version < 10
small_version version h = go (eqb version 1) (eqb version 2) refl refl h
  where
    go : (a b : Bool) → eqb version 1 ≡ a → eqb version 2 ≡ b → (a || b) ≡ true → version < 10
    go true b e f h = let x : version ≡ 1 = is_eqb _ _ e in omega arith
    go false true e f h = let x : version ≡ 2 = is_eqb _ _ f in omega arith
    go false false e f h = let z : ◌≡◌ {A = ℕ} 0 1 = cc in absurd (omega arith)

header_short : (b : HeaderBody) (tail : ℕ) → b.version < 10 → b.frameLength < 4294967296 → tail < 4294967296 → length (header_line b tail) ≤ 42
header_short b tail v f t =
    let x = decimal_few 0 b.version (omega arith) in
    let y = decimal_few 9 b.frameLength (omega arith) in
    let z = decimal_few 9 tail (omega arith) in
    let h = header_long b.version b.messageType b.suite b.contentType b.frameLength tail _ _ _ refl refl refl in
    omega arith

-- an accepted header, against its image
body_short : (form : Form) (b : HeaderBody) (tail : ℕ) → length (header_line b tail) ≤ 42 → length (body_listing b tail) ≤ 2 * length (image form (fields_of b)) + 28
unfolding body_listing image fields_of
body_short form b tail h =
    let i = part_line_long word_id b.messageId in
    let o = opening_long (eqb b.version 1) b.messageType b.suite b.messageId.bytes in
    let p = pairs_short b.pairs in
    let s = section_long form (map pair_of b.pairs) in
    let k = keys_short b.keys in
    let l = keys_long (map key_of b.keys) in
    let d = data_short b.version b.headerIvLength b.frameLength b.suiteData in
    simp length-append (omega arith)

-- the numbers of the list have two digits at most
number_few : (ks : List ℕ) → every (λ j. ltb j 100) ks ≡ true → (k : ℕ) → Memᴰ k ks → k < 100
unfolding every
number_few [] e k h = absurd (Memᴰ.not-nil h)
number_few (j ∷ ks) e k h =
    let z = both (ltb j 100) (every (λ j. ltb j 100) ks) e in
    let few : j < 100 = ltb-true j 100 z.0 in
    ⊎_elim (λ q. let same : k ≡ j = q in omega arith) (number_few ks z.1 k) (Memᴰ.cases_cons h)

refusal_short : (k p : ℕ) → k < 100 → p < 10000000000 → length (refusal_listing k p) ≤ 22
refusal_short k p few near =
    let x = decimal_few 1 k (omega arith) in
    let y = decimal_few 9 p (omega arith) in
    let h = refusal_long k p _ _ refl refl in
    omega arith

module _ (m : List ℕ) (hb : Bytes m) where
  accepted_fits : (b : HeaderBody) (t : ℕ) → as_listed m 0 ≡ accepted b t → length (body_listing b t) ≤ 2 * length m + 28
  unfolding fields_of
  accepted_fits b t e =
      let few : length m ≤ 4294967295 = few_bytes m b t e in
      let z = (demand_3.sentence_1 no_max 4096 4096 m 0 hb).only few b t e in
      let form = mark_by z.0 z.1.pairs in
      let v : z.1.version ≡ b.version = sym (ap (λ (f : Fields). f.version) z.3.fields) in
      let f : z.1.frameLength ≡ b.frameLength = sym (ap (λ (f : Fields). f.frameLength) z.3.fields) in
      let version : z.1.version < 10 = small_version z.1.version (good form z.1 z.2.accepts).top.lead.t3 in
      let frame = z.2.accepts.frame_is_32_bits in
      let bytes : length m ≡ length (image form z.1) + length z.2.after = ap length z.2.bytes ∙ rw length-append in
      let tail : t ≡ 0 + length (image form z.1) = z.5 in
      let text = body_short form b t (header_short b t (omega arith) (omega arith) (omega arith)) in
      let same : length (image form (fields_of b)) ≡ length (image form z.1) = ap (λ (f : Fields). length (image form f)) z.3.fields in
      omega arith

  abbrev asked : Request
  asked = request either tolerant true no_max 4096 4096

  -- a position that is wanted lies near behind the end of a message that is not too long, and any other is 0
  position_few : (k p : ℕ) → as_listed m 0 ≡ refused k p → Refusal (body_refusals asked) m k p → p < 10000000000
  unfolding read_header_body_under
  position_few k p e h = by (eqb k 2) refl
    where
      by : (b : Bool) → eqb k 2 ≡ b → p < 10000000000
      by true q =
          let two : operation (read_body asked) m 0 ≡ refused 2 p = rw (is_eqb k 2 q) at e in
          let few : length m ≤ 4294967295 = by_contra (length m) 4294967295 (λ z. let y : ◌≡◌ {A = Answer HeaderBody} (refused 1 0) (refused 2 p) = sym (operation_long (read_body asked) m 0 z) ∙ two in let x : ◌≡◌ {A = ℕ} 1 2 = cc in omega arith) in
          let near = nearness.of_body asked m 0 p hb two in
          omega arith
      by false q = let none : p ≡ 0 = h.otherwise_0 (eqb-false k 2 q) in omega arith

  answer_fits : (a : Answer HeaderBody) → as_listed m 0 ≡ a → length (listing_of a) ≤ 2 * length m + 28
  unfolding read_header_body_under body_refusals opening_refusals lead_refusals forbidden_refusals passing numbers_behind section_refusals reserved_refusals frame_refusals room_refusals closing_refusals key_section_refusals every
  answer_fits (accepted b t) e = accepted_fits b t e
  answer_fits (refused k p) e =
      let h : Refusal (body_refusals asked) m k p = refusals.of_body asked m 0 k p e in
      let short = refusal_short k p (number_few _ refl k h.is_listed) (position_few k p e h) in
      omega arith

  pub two_a_byte : length (listing m) ≤ 2 * length m + 28
  unfolding listing
  two_a_byte = answer_fits (as_listed m 0) refl

pub listing_fits : ListingFits
listing_fits = record { two_a_byte = two_a_byte; in_the_program = λ m hb h. (let w = two_a_byte m hb in omega arith) }
