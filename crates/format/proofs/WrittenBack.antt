-- What was read is written back, byte for byte: the writer is handed the value that was read, in the form that it was read in, and takes it.
-- Assumes nothing.
use mathlib.Core.Path.{◌≡◌, refl, sym, ap, ◌∙◌}
use mathlib.Core.Bool.{true}
use mathlib.Core.Option.{none}
use mathlib.Core.List.{List, [], ◌∷◌, ◌++◌, map, append-nil}
use Prim.Native.Nat.{ℕ, ◌+◌, ◌*◌, ◌-◌, ◌/◌, ◌%◌, ◌≤◌}
use native.Mathlib.Omega.{arith}
use lib.ListN.{length, take, drop, length-append, length-drop}
use lib.Seq.{drop-drop, take-append_seam}
use Rattle.format.specs.Read.{accepted}
use Rattle.format.specs.Serialize.{Part, images, every}
use Rattle.format.specs.Fields.{PairAt, EncryptedDataKeyAt, HeaderBody, pair_of, key_of, fields_of, pair_places, key_places}
use Rattle.format.specs.Body.{either, Request, request, read_header_body_under, image}
use Rattle.format.specs.Checks.{first}
use Rattle.format.specs.Lent.{bytes_at, filled, place, pair_numbers, key_numbers, items, here, in_text, pairs_in, keys_in, table_checks, BodyToWrite, fields_to_write, writing_header_body, written, output_after}
use Rattle.format.specs.Demand3.{Held, Each, HeldBody}
use Rattle.format.specs.WrittenBack.{again, WrittenBack}
use Rattle.format.proofs.Body.{Sent, BodyOk, sent_bytes, body_at, body_exact, fields_at, some_bytes}
use Rattle.format.proofs.Accepts.{accepts, body_good}
use Rattle.format.proofs.Messages.{accepted_took}
use Rattle.format.proofs.Held.{Within, body_held, body_within}
use Rattle.format.proofs.Tests.{leb_is, eqb_is}
use Rattle.format.proofs.Firsts.{unheld}
use Rattle.format.proofs.Filled.{places_long, pair_numbers_long, key_numbers_long, place_there, pairs_there, keys_there}
use Rattle.format.proofs.Written.{writes}

-- parts within a message pass 26
inside : (m table : List ℕ) (ps : List Part) (at : ℕ) → Each (Within m) ps → drop at table ≡ images place ps → every (in_text m table) (items here 2 (length ps) at) ≡ true
unfolding every items in_text images
inside m table [] at h e = refl
inside m table (p ∷ ps) at (w, h) e =
    let (a, b) = place_there table p (images place ps) at e in
    rw (a, b, leb_is (p.start + length p.bytes) (length m) w) (inside m table ps (at + 2) h (sym (drop-drop 2 at table) ∙ ap (drop 2) e))

pub passes : (k : ℕ) (m : List ℕ) (ps : List Part) → length (images place ps) % k ≡ 0 → Each (Within m) ps → first (table_checks k m (images place ps)) ≡ none
unfolding table_checks
passes k m ps whole h =
    let t = images place ps in
    let e : length t / 2 ≡ length ps = (let d = places_long ps in omega arith) in
    unheld (table_checks k m t) (eqb_is _ 0 whole, (rw e (inside m t ps 0 h refl), tt))

-- of a table that was filled, the entries that were
pub front : (numbers table : List ℕ) (n : ℕ) → length numbers ≡ n → take n (filled numbers table) ≡ numbers
front numbers table n e = rw (← e) (take-append_seam numbers (drop (length numbers) table))

-- a table of just those entries has so many items
pub just_those : {A B : Type 0} (k : ℕ) (numbers : List ℕ) (item : ℕ → B) (xs : List A) (value : List B) → length numbers / k ≡ length xs
    → (drop 0 numbers ≡ numbers ++ [] → items item k (length xs) 0 ≡ value) → items item k (length numbers / k) 0 ≡ value
just_those k numbers item xs value n h = rw n (h (sym (append-nil numbers)))

pairs_back : (m : List ℕ) (ps : List PairAt) → Each (Held m) (images pair_places ps) → pairs_in m (pair_numbers ps) ≡ map pair_of ps
pairs_back m ps h = just_those 4 (pair_numbers ps) _ ps _ (let e = pair_numbers_long ps in omega arith) (pairs_there m (pair_numbers ps) ps [] 0 h)

keys_back : (m : List ℕ) (ks : List EncryptedDataKeyAt) → Each (Held m) (images key_places ks) → keys_in m (key_numbers ks) ≡ map key_of ks
keys_back m ks h = just_those 6 (key_numbers ks) _ ks _ (let e = key_numbers_long ks in omega arith) (keys_there m (key_numbers ks) ks [] 0 h)

module _ (m : List ℕ) (s : ℕ) (v : Sent) (q : Request) (tests : q.frames ≡ true) (ok : BodyOk q v) (after : List ℕ) (split : drop s m ≡ sent_bytes v ++ after) (pairTable keyTable : List ℕ) where
  abbrev b : HeaderBody
  b = body_at s v

  abbrev w : BodyToWrite
  w = again m b (filled (pair_numbers b.pairs) pairTable) (filled (key_numbers b.keys) keyTable)

  at_place : HeldBody m b
  at_place = body_held m q s v ok (record { after = after; is = split })

  pair_table_is : w.pairTable ≡ pair_numbers b.pairs
  unfolding again
  pair_table_is = front (pair_numbers b.pairs) pairTable (4 * length b.pairs) (pair_numbers_long b.pairs)

  key_table_is : w.keyTable ≡ key_numbers b.keys
  unfolding again
  key_table_is = front (key_numbers b.keys) keyTable (6 * length b.keys) (key_numbers_long b.keys)

  -- the writer is handed the value that was read
  fields_are : fields_to_write w ≡ v.fields
  unfolding fields_to_write again fields_of
  fields_are =
      rw (
        pair_table_is,
        key_table_is,
        pairs_back m b.pairs at_place.pairs,
        keys_back m b.keys at_place.keys,
        at_place.messageId,
        at_place.suiteData,
      )
      (fields_at s v)

  form_is : w.form ≡ v.form
  unfolding again
  form_is = refl

  text_is : w.text ≡ m
  unfolding again
  text_is = refl

  back : (out : List ℕ) → length (sent_bytes v) ≤ length out
      → (written (writing_header_body w) out ≡ accepted tt (length (sent_bytes v))) × (output_after (writing_header_body w) out ≡ filled (sent_bytes v) out)
  back out fits =
      let i : image w.form (fields_to_write w) ≡ sent_bytes v = rw (fields_are, form_is) refl in
      let (inPairs, inKeys) = body_within m s v (record { after = after; is = split }) in
      rw i at
      (writes w out (rw (fields_are, form_is) (accepts v.form v.fields (body_good q tests v ok)))
      (rw (text_is, pair_table_is) (passes 4 m (images pair_places b.pairs) (let e = pair_numbers_long b.pairs in omega arith) inPairs))
      (rw (text_is, key_table_is) (passes 6 m (images key_places b.keys) (let e = key_numbers_long b.keys in omega arith) inKeys))
      (rw i fits))

pub written_back : WrittenBack
unfolding read_header_body_under
written_back =
    record {
      exactly = λ mode max pairRoom keyRoom m s hb b t e.
          let q = request either mode true max pairRoom keyRoom in
          let (l, x) = accepted_took (body_exact q) m s hb b t e in
          let v : Sent = x.value in
          let n : t - s ≡ length (sent_bytes v) = (let z = x.tail in omega arith) in
          let d : length m - s ≡ length (sent_bytes v ++ l) = sym (length-drop s m) ∙ ap length x.split in
          let a = length-append (sent_bytes v) l in
          let c : bytes_at m s (length (sent_bytes v)) ≡ sent_bytes v = rw x.split (take-append_seam (sent_bytes v) l) in
          record {
            forward = (let z = x.tail in omega arith);
            within = (let z = x.tail in let y = some_bytes v in omega arith);
            back = λ pairTable keyTable out h. rw (x.placed, n, c) (back m s v q refl x.good l x.split pairTable keyTable out (rw n at h));
          };
    }
