-- What adding a key to a draft means. Assumes nothing.
use mathlib.Core.Path.{◌≡◌, refl, ap, ◌∙◌}
use mathlib.Core.Bool.{true}
use mathlib.Core.List.{List, [], ◌∷◌, ◌++◌, append-nil}
use Prim.Native.Nat.{ℕ, suc, ◌+◌, ◌-◌, ◌≤◌, ◌<◌}
use native.Mathlib.Omega.{arith}
use lib.Dec.{ltb}
use lib.ListN.{length, take, drop, length-append}
use Rattle.format.specs.Read.{accepted, operation}
use Rattle.format.specs.Serialize.{Bytes, images, every}
use Rattle.format.specs.Utf8.{valid_utf8_seq}
use Rattle.format.specs.Fields.{EncryptedDataKey, Fields, HeaderBody, fields_of, key_parts}
use Rattle.format.specs.Keys.{write_encrypted_data_key}
use Rattle.format.specs.Auth.{zeros}
use Rattle.format.specs.Checks.{each, has_uint16_len}
use Rattle.format.specs.Lent.{filled}
use Rattle.format.specs.Mending.{read_draft, without_provider, added, dropped_image, added_image, drop_encrypted_data_keys, addable, add_encrypted_data_key, mended}
use Rattle.format.specs.Mending.{some_remain as remain}
use Rattle.format.specs.Mended.{Draft, Absent, Added, Adds}
use Rattle.format.proofs.Serialize.{images_append}
use Rattle.format.proofs.Tests.{leb_is, nleb_is, is_leb}
use Rattle.format.proofs.Firsts.{both}
use Rattle.format.proofs.Find.{equal_same}
use Rattle.format.proofs.Accepts.{keys_good}
use Rattle.format.proofs.Keys.{KeyListOk}
use Rattle.format.proofs.Body.{Sent, sent_bytes}
use Rattle.format.proofs.Messages.{refused_stays}
use Rattle.format.proofs.LeftOut.{of_joined}
use Rattle.format.proofs.TakenOut.{leaves_out, all_stay, good_behind}
use Rattle.format.proofs.Drafts.{sent_with, around_length, WasRead, was_read, length_keys}
use Rattle.format.proofs.Mending.{add_said, as_long_as, drafted, drop_said, in_parts, long, nonempty, own_image, own_keys, own_length, own_tail, past, refused_keeps, says_16, says_27, says_28, with_image}

module _ (k : EncryptedDataKey) (m : List ℕ) (b : HeaderBody) (t : ℕ) (w : WasRead m b t) where
  abbrev sent : Sent
  sent = w.sent

  abbrev more : List EncryptedDataKey
  more = (fields_of b).keys ++ (k ∷ [])

  -- the longer draft
  abbrev long_draft : List ℕ
  long_draft = sent_bytes (sent_with more sent)

  is_long : added_image k b ≡ long_draft
  is_long = with_image m b t w more

  own : (fields_of b).keys ≡ sent.fields.keys
  own = ap (λ (f : Fields). f.keys) w.fields

  by_the_key : length long_draft ≡ t + length (write_encrypted_data_key k)
  unfolding images
  by_the_key =
      let a = around_length sent more in
      let c = around_length sent sent.fields.keys in
      let e = own_length m b t w in
      let f : length (images write_encrypted_data_key more) ≡ length (images write_encrypted_data_key sent.fields.keys) + length (write_encrypted_data_key k) =
      ap length (images_append write_encrypted_data_key (fields_of b).keys (k ∷ []))
      ∙ length-append (images write_encrypted_data_key (fields_of b).keys) (write_encrypted_data_key k ++ [])
      ∙ rw (append-nil (write_encrypted_data_key k), own) refl in
      omega arith

  module _ (valid : valid_utf8_seq k.keyProviderId ≡ true) (fit : addable k (length b.keys) ≡ true) where
    more_ok : KeyListOk more
    unfolding images every each
    more_ok =
        let (parts, room) = both (every has_uint16_len (key_parts k)) (ltb (length b.keys) 65535) fit in
        let n : length b.keys < 65535 = is_leb (suc (length b.keys)) 65535 room in
        let c : length (fields_of b).keys ≡ length b.keys = length_keys b in
        let e = length-append (fields_of b).keys (k ∷ []) in
        record {
          few = omega arith;
          some = nonempty more (λ z. let y = ap length z in omega arith);
          each = good_behind [] k (fields_of b).keys (rw own w.ok.keys.list.each) (keys_good [] (k ∷ []) parts (valid, tt)).0;
        }

    module _ (room : t + length (write_encrypted_data_key k) ≤ length m) where
      abbrev n : ℕ
      n = length long_draft

      none_freed : t - n ≡ 0
      none_freed = let a = by_the_key in omega arith

      to_n : length (mended long_draft t) ≡ n
      to_n = let a = long long_draft m t in let c = none_freed in omega arith

      abbrev longer : List ℕ
      longer = long_draft ++ (zeros (t - n) ++ drop n m)

      longer_long : length longer ≡ length m
      longer_long = as_long_as long_draft m t n to_n (let a = by_the_key in omega arith)

      longer_draft : Draft longer b.form (added k (fields_of b)) n
      longer_draft = drafted m b t w more more_ok (zeros (t - n) ++ drop n m) (let a = longer_long in let c = w.few in omega arith)

      module _ (absent : Absent k.keyProviderId (fields_of b).keys) where
        abbrev id : List ℕ
        id = k.keyProviderId

        abbrev read_again : HeaderBody
        read_again = longer_draft.body

        -- of the longer draft's keys those of the first are left
        left_again : without_provider id (fields_of read_again).keys ≡ (fields_of b).keys
        unfolding without_provider
        left_again =
            ap (λ (f : Fields). without_provider id f.keys) longer_draft.gives.fields
            ∙ of_joined (leaves_out id) (fields_of b).keys (k ∷ [])
            ∙ rw (all_stay id (fields_of b).keys absent, equal_same id) (append-nil (fields_of b).keys)

        first_again : dropped_image id read_again ≡ take t m
        first_again =
            rw (longer_draft.marked, left_again, longer_draft.gives.fields) (rw (w.fields, w.marked) (own_keys sent.form sent.fields)) ∙ own_image m b t w

        some_again : remain id read_again ≡ true
        some_again = rw (left_again, own) w.ok.keys.list.some

        dropped_again : operation (drop_encrypted_data_keys id) longer 0 ≡ accepted (take t m) n
        dropped_again = drop_said longer read_again n longer_draft.reads id some_again ∙ ap (λ l. accepted l n) first_again

        buffer_again : filled (mended (take t m) n) longer ≡ take t m ++ (zeros (n - t) ++ drop n m)
        buffer_again =
            let a : length (mended (take t m) n) ≡ n = (let c = long (take t m) m n in let e = own_tail m b t w in let f = by_the_key in omega arith) in
            in_parts (take t m) longer n n a ∙ rw (own_tail m b t w, past long_draft m t n to_n) refl

      add_means : Added k m b t (length (added_image k b)) (filled (mended (added_image k b) t) m)
      add_means =
          rw (is_long, in_parts long_draft m t n to_n)
          (record {
            draft = longer_draft;
            longer = by_the_key;
            kept = past long_draft m t n to_n;
            as_long = longer_long;
            back = λ absent. (dropped_again absent, rw (dropped_again absent) (buffer_again absent));
          })

pub adds : (k : EncryptedDataKey) (m : List ℕ) → Bytes m → Adds k m
unfolding add_encrypted_data_key
adds k m hb =
    record {
      reading_refused = λ j p e. refused_stays read_draft _ m 0 j p e;
      not_utf8 = λ b t e h. says_16 m b t e k (length m) h;
      too_large = λ b t e h j. says_27 m b t e k (length m) h j;
      too_short = λ b t e h j short.
          let w = was_read m hb b t e in
          let n = by_the_key k m b t w in
          let i = ap length (is_long k m b t w) in
          says_28 m b t e k (length m) h j (nleb_is (length (added_image k b)) (length m) (omega arith));
      fits = λ b t e h j room.
          let w = was_read m hb b t e in
          let n = by_the_key k m b t w in
          let i = ap length (is_long k m b t w) in
          let said = add_said m b t e k (length m) h j (leb_is (length (added_image k b)) (length m) (omega arith)) in
          (said, rw said (add_means k m b t w h j room));
      keeps = λ j p e. refused_keeps _ m j p e;
    }
