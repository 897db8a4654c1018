-- What taking keys out of a draft means. Assumes nothing.
use mathlib.Core.Path.{◌≡◌, sym, ap, ◌∙◌}
use mathlib.Core.List.{List, [], ◌++◌}
use Prim.Native.Nat.{ℕ, ◌-◌, ◌≤◌}
use native.Mathlib.Omega.{arith}
use lib.ListN.{length, drop}
use Rattle.format.specs.Serialize.{Bytes}
use Rattle.format.specs.Fields.{EncryptedDataKey, Fields, HeaderBody, fields_of}
use Rattle.format.specs.Auth.{zeros}
use Rattle.format.specs.Lent.{filled}
use Rattle.format.specs.Mending.{read_draft, without_provider, dropped_image, drop_encrypted_data_keys, mended}
use Rattle.format.specs.Mended.{TakenOut, Absent, Dropped, Drops}
use Rattle.format.proofs.Keys.{KeyListOk}
use Rattle.format.proofs.Body.{Sent, sent_bytes}
use Rattle.format.proofs.Messages.{refused_stays}
use Rattle.format.proofs.TakenOut.{taken_out, none_of_it, all_stay, fewer, shorter, good_stay}
use Rattle.format.proofs.Drafts.{sent_with, around_length, WasRead, was_read}
use Rattle.format.proofs.Mending.{as_long_as, drafted, drop_said, in_parts, inside, long, nonempty, own_keys, own_length, past, refused_keeps, says_40, with_image, zeroed}

module _ (id m : List ℕ) (b : HeaderBody) (t : ℕ) (w : WasRead m b t) (left : without_provider id (fields_of b).keys ≡ [] → ⊥) where
  abbrev v : Sent
  v = w.sent

  abbrev ks : List EncryptedDataKey
  ks = without_provider id (fields_of b).keys

  -- the draft that is left
  abbrev d : List ℕ
  d = sent_bytes (sent_with ks v)

  is_d : dropped_image id b ≡ d
  is_d = with_image m b t w ks

  out : TakenOut id v.fields.keys ks
  out = rw (ap (λ (f : Fields). f.keys) w.fields) (taken_out id v.fields.keys)

  d_short : length d ≤ t
  d_short =
      let a = around_length v ks in
      let c = around_length v v.fields.keys in
      let e = own_length m b t w in
      let f = shorter id out in
      omega arith

  to_t : length (mended d t) ≡ t
  to_t = let a = long d m t in let c = d_short in omega arith

  keys_ok : KeyListOk ks
  keys_ok =
      let o = w.ok.keys.list in
      let n = fewer id out in
      let g = o.few in
      record { few = omega arith; some = nonempty ks left; each = good_stay id [] [] out o.each }

  abbrev after : List ℕ
  after = d ++ (zeros (t - length d) ++ drop t m)

  after_long : length after ≡ length m
  after_long = as_long_as d m t t to_t (inside m b t w)

  stays_put : Absent id (fields_of b).keys → (after ≡ m) × (length d ≡ t)
  unfolding zeros
  stays_put h =
      let e : ks ≡ v.fields.keys = all_stay id (fields_of b).keys h ∙ ap (λ (f : Fields). f.keys) w.fields in
      let f : d ≡ sent_bytes v = ap (λ l. sent_bytes (sent_with l v)) e ∙ own_keys v.form v.fields in
      let n : length d ≡ t = ap length f ∙ sym w.tail in
      let z : t - length d ≡ 0 = omega arith in
      (rw z (ap (λ l. l ++ drop t m) f ∙ sym w.bytes), n)

  drop_means : Dropped id m b t (length (dropped_image id b)) (filled (mended (dropped_image id b) t) m)
  drop_means =
      rw (is_d, in_parts d m t t to_t)
      (record {
        draft = drafted m b t w ks keys_ok (zeros (t - length d) ++ drop t m) (let a = after_long in let c = w.few in omega arith);
        taken_out = taken_out id (fields_of b).keys;
        no_such_key = none_of_it id (taken_out id (fields_of b).keys);
        not_longer = d_short;
        freed = zeroed d m t t;
        kept = past d m t t to_t;
        as_long = after_long;
        unchanged = stays_put;
      })

pub drops : (id m : List ℕ) → Bytes m → Drops id m
unfolding drop_encrypted_data_keys
drops id m hb =
    record {
      reading_refused = λ k p e. refused_stays read_draft _ m 0 k p e;
      none_remains = λ b t e h. says_40 m b t e id h;
      some_remain = λ b t e h.
          let said = drop_said m b t e id (nonempty _ h) in
          (said, rw said (drop_means id m b t (was_read m hb b t e) h));
      keeps = λ k p e. refused_keeps _ m k p e;
    }
