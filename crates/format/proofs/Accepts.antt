-- What our writer accepts, given a mark, is what the readers' exactness asks of a value. Assumes nothing.
use mathlib.Core.Path.{◌≡◌, refl}
use mathlib.Core.Bool.{Bool, true, false, not, cond}
use mathlib.Core.List.{List, [], ◌∷◌, ◌++◌, map}
use Prim.Native.Nat.{ℕ, suc, ◌+◌, ◌<◌}
use native.Mathlib.Omega.{arith}
use lib.Dec.{ltb, eqb}
use lib.ListN.{length, take}
use Rattle.format.specs.Serialize.{images, every, sum}
use Rattle.format.specs.Shared.{SuiteRow, suites, version_in, known, frame_fits}
use Rattle.format.specs.Fields.{Form, Pair, EncryptedDataKey, Fields, pair_parts, key_parts}
use Rattle.format.specs.Context.{pair_length, linear_length, pairs_limit}
use Rattle.format.specs.Policies.{Policy, no_policy}
use Rattle.format.specs.Body.{Which, either, Lead, Request}
use Rattle.format.specs.Checks.{Check, check, each, has_uint16_len, pair_checks, key_checks, pairs_checks, keys_checks, opening_checks, closing_checks, fits_form, form_checks, body_checks_under, body_checks, Accepts}
use Rattle.format.specs.Pinned.{check_number}
use Rattle.format.proofs.Tests.{leb_is, is_leb, eqb_is, is_eqb}
use Rattle.format.proofs.Exact.{Oks}
use Rattle.format.proofs.Serialize.{Short}
use Rattle.format.proofs.Context.{NextOk, room_all, linear_length_snoc}
use Rattle.format.proofs.Keys.{KeyOk, KeyListOk}
use Rattle.format.proofs.Ends.{LeadOk, TopOk, EndOk, version_is}
use Rattle.format.proofs.Body.{Sent, BodyOk, top_of, end_of}
use Rattle.format.proofs.Firsts.{Holds, holds, unheld, split, join, both, and}

short_in : (xs : List ℕ) → has_uint16_len xs ≡ true → Short xs
short_in xs e = let h = is_leb (length xs) 65535 e in omega arith

short_out : (xs : List ℕ) → Short xs → has_uint16_len xs ≡ true
short_out xs h = leb_is (length xs) 65535 (omega arith)

pairs_good : (acc ps : List Pair) → every has_uint16_len (images pair_parts ps) ≡ true → linear_length acc + linear_length ps < pairs_limit → Holds (each pair_checks acc ps) → Oks NextOk acc ps
unfolding every images each sum
pairs_good acc [] e r h = tt
pairs_good acc (p ∷ ps) e r (a, (b, (c, h))) =
    let f = both (has_uint16_len p.key) _ e in
    let g = both (has_uint16_len p.value) _ f.1 in
    let s = linear_length_snoc acc p in (
      record {
        pair = record { key = (short_in p.key f.0, a); value = (short_in p.value g.0, b) };
        new = c;
        room = leb_is (suc (linear_length acc + pair_length p)) pairs_limit (omega arith);
      },
      pairs_good (acc ++ (p ∷ [])) ps g.1 (omega arith) h,
    )

pairs_pass : (acc ps : List Pair) → Oks NextOk acc ps → (every has_uint16_len (images pair_parts ps) ≡ true) × Holds (each pair_checks acc ps)
unfolding every images each
pairs_pass acc [] o = (refl, tt)
pairs_pass acc (p ∷ ps) (o, os) =
    let z = pairs_pass (acc ++ (p ∷ [])) ps os in
    let k = o.pair.key in
    let v = o.pair.value in
    (and (short_out p.key k.0) (and (short_out p.value v.0) z.0), (k.1, (v.1, (o.new, z.1))))

pub keys_good : (acc ks : List EncryptedDataKey) → every has_uint16_len (images key_parts ks) ≡ true → Holds (each key_checks acc ks) → Oks KeyOk acc ks
unfolding every images each
keys_good acc [] e h = tt
keys_good acc (k ∷ ks) e (a, h) =
    let f = both (has_uint16_len k.keyProviderId) _ e in
    let g = both (has_uint16_len k.keyProviderInfo) _ f.1 in
    let i = both (has_uint16_len k.ciphertext) _ g.1 in (
      record { provider = (short_in k.keyProviderId f.0, a); info = short_in k.keyProviderInfo g.0; cipher = short_in k.ciphertext i.0 },
      keys_good (acc ++ (k ∷ [])) ks i.1 h,
    )

keys_pass : (acc ks : List EncryptedDataKey) → Oks KeyOk acc ks → (every has_uint16_len (images key_parts ks) ≡ true) × Holds (each key_checks acc ks)
unfolding every images each
keys_pass acc [] o = (refl, tt)
keys_pass acc (k ∷ ks) (o, os) =
    let z = keys_pass (acc ++ (k ∷ [])) ks os in
    (and (short_out k.keyProviderId o.provider.0) (and (short_out k.keyProviderInfo o.info) (and (short_out k.ciphertext o.cipher) z.0)), (o.provider.1, z.1))

-- a number of the suite table has two bytes
abbrev Narrow : List SuiteRow → Type 0
Narrow [] = Unit {0}
Narrow (r ∷ rows) = (r.number < 65536) × Narrow rows

in_table : (rows : List SuiteRow) → Narrow rows → (x : ℕ) → not (eqb (version_in rows x) 0) ≡ true → x < 65536
unfolding version_in
in_table [] h x e = let z : ◌≡◌ {A = ℕ} 0 1 = cc in absurd (omega arith)
in_table (r ∷ rows) (k, h) x e = go (eqb r.number x) refl e (in_table rows h x)
  where
    go : (b : Bool) → eqb r.number x ≡ b → not (eqb (cond b r.version (version_in rows x)) 0) ≡ true
        → (not (eqb (version_in rows x) 0) ≡ true → x < 65536) → x < 65536
    go true q e f = let z : r.number ≡ x = is_eqb r.number x q in omega arith
    go false q e f = f e

pub known_narrow : (x : ℕ) → known x ≡ true → x < 65536
unfolding suites
known_narrow x e = in_table suites (omega arith) x e

-- the checks of a section hold just of what its reader accepts
pub pairs_then : (ps : List Pair) → Holds (pairs_checks ps) → (length ps < 65536) × Oks NextOk [] ps
unfolding pairs_checks sum
pairs_then ps (n, (f, h)) =
    let few = is_leb (length ps) 65535 n in
    let (each_holds, room) = split (each pair_checks [] ps) (check 13 (ltb (linear_length ps) pairs_limit) ∷ []) h in
    let r : linear_length ps < pairs_limit = is_leb (suc (linear_length ps)) pairs_limit room.0 in
    (omega arith, pairs_good [] ps f (omega arith) each_holds)

pub then_pairs : (ps : List Pair) → length ps < 65536 → Oks NextOk [] ps → Holds (pairs_checks ps)
unfolding pairs_checks sum
then_pairs ps few o =
    let p = pairs_pass [] ps o in
    let room : linear_length [] + linear_length ps < pairs_limit = room_all [] ps (omega arith) o in
    (leb_is (length ps) 65535 (omega arith), (p.0, join (each pair_checks [] ps) (check 13 (ltb (linear_length ps) pairs_limit) ∷ []) p.1 (leb_is (suc (linear_length ps)) pairs_limit (omega arith), tt)))

-- 38 stands after 27
pub in_writing : (ks : List EncryptedDataKey) → take 3 (map check_number (keys_checks ks)) ≡ (27 ∷ 27 ∷ 38 ∷ [])
unfolding keys_checks
in_writing ks = refl

pub keys_then : (ks : List EncryptedDataKey) → Holds (keys_checks ks) → KeyListOk ks
unfolding keys_checks
keys_then ks (n, (f, (some, h))) = let few = is_leb (length ks) 65535 n in record { few = omega arith; some = some; each = keys_good [] ks f h }

pub then_keys : (ks : List EncryptedDataKey) → KeyListOk ks → Holds (keys_checks ks)
unfolding keys_checks
then_keys ks o =
    let few = o.few in
    let k = keys_pass [] ks o.each in
    (leb_is (length ks) 65535 (omega arith), (k.0, (o.some, k.1)))

-- 39 stands right after 7
pub policy_after_7 : (policy : Policy) (version messageType suite id : ℕ) → map check_number (opening_checks policy version messageType suite id) ≡ (3 ∷ 5 ∷ 6 ∷ 7 ∷ 39 ∷ 24 ∷ [])
policy_after_7 policy version messageType suite id = refl

-- what fields are that our writer accepts, given the mark
pub record Good (form : Form) (f : Fields) : Type 0 where
  pub top : TopOk either no_policy (top_of f)
  pub few_pairs : length f.pairs < 65536
  pub pairs : Oks NextOk [] f.pairs
  pub t33 : fits_form form (length f.pairs) ≡ true
  pub keys : KeyListOk f.keys
  pub end : EndOk (eqb f.version 1) (end_of f)
  pub t20 : frame_fits f.contentType f.frameLength ≡ true

abbrev opens : Fields → List Check
opens f = opening_checks no_policy f.version f.messageType f.suite (length f.messageId)

abbrev closes : Fields → List Check
closes f = closing_checks f.version f.contentType f.headerIvLength (length f.suiteData) f.frameLength

pub good : (form : Form) (f : Fields) → Accepts form f → Good form f
unfolding body_checks_under
good form f a =
    let (t, r) = split (opens f) (pairs_checks f.pairs ++ (form_checks form (length f.pairs) ++ (keys_checks f.keys ++ closes f))) (holds (body_checks [] [] form f) a.none_applies) in
    let (hp, (h33, r')) = split (pairs_checks f.pairs) (form_checks form (length f.pairs) ++ (keys_checks f.keys ++ closes f)) r in
    let (hk, z) = split (keys_checks f.keys) (closes f) r' in
    let p = pairs_then f.pairs hp in
    record {
      top = record {
        lead = record {
          t3 = t.0;
          t4 = refl;
          t5 = is_eqb _ _ t.1.0;
          suite = record { wide = known_narrow f.suite t.1.1.0; t6 = t.1.1.0; t7 = rw (version_is f.version t.0) t.1.1.1.0 };
        };
        t39 = t.1.1.1.1.0;
        sized = is_eqb _ _ t.1.1.1.1.1.0;
      };
      few_pairs = p.0;
      pairs = p.1;
      t33 = h33;
      keys = keys_then f.keys hk;
      end = record { t17 = z.0; t19 = is_eqb _ _ z.1.0; wide = a.frame_is_32_bits; sized = is_eqb _ _ z.1.1.0 };
      t20 = z.1.1.1.0;
    }

pub accepts : (form : Form) (f : Fields) → Good form f → Accepts form f
unfolding body_checks_under
accepts form f g =
    let l = g.top.lead in
    record {
      none_applies = unheld (body_checks [] [] form f)
          (join (opens f) (pairs_checks f.pairs ++ (form_checks form (length f.pairs) ++ (keys_checks f.keys ++ closes f)))
          (l.t3, (eqb_is _ _ l.t5, (l.suite.t6, (rw (version_is f.version l.t3) at l.suite.t7, (g.top.t39, (eqb_is _ _ g.top.sized, tt))))))
          (join (pairs_checks f.pairs) (form_checks form (length f.pairs) ++ (keys_checks f.keys ++ closes f)) (then_pairs f.pairs g.few_pairs g.pairs) (
            g.t33,
            join (keys_checks f.keys) (closes f) (then_keys f.keys g.keys)
                (g.end.t17, (eqb_is _ _ g.end.t19, (eqb_is _ _ g.end.sized, (g.t20, tt)))),
          )));
      frame_is_32_bits = g.end.wide;
    }

-- what one version's reader takes, the either-version reader does
any : {which : Which} {l : Lead} → LeadOk which l → LeadOk either l
any o = record { t3 = o.t3; t4 = refl; t5 = o.t5; suite = o.suite }

-- a value of a reader that tests 20 is one of a writer
pub body_good : (q : Request) → q.frames ≡ true → (x : Sent) → BodyOk q x → Good x.form x.fields
body_good q tests x o =
    record {
      top = record { lead = any o.top.lead; t39 = refl; sized = o.top.sized };
      few_pairs = o.context.section.few;
      pairs = o.context.section.each;
      t33 = o.context.fits;
      keys = o.keys.list;
      end = o.end;
      t20 = rw tests at o.t20;
    }
