-- The size before writing: what every writer will answer; a body's refusals; records marked old. Assumes nothing.
use mathlib.Core.Path.{◌≡◌, refl, sym, ap, ◌∙◌}
use mathlib.Core.Bool.{Bool, true, false}
use mathlib.Core.Option.{Option, none, some}
use mathlib.Core.Logic.{◌⊎◌, inl, inr}
use mathlib.Core.List.{List, [], ◌∷◌, ◌++◌, map}
use Prim.Native.Nat.{ℕ, ◌+◌, ◌≤◌, ◌<◌}
use native.Mathlib.Omega.{arith}
use lib.Dec.{leb, eqb}
use lib.ListN.{length, length-append}
use Rattle.format.specs.Read.{accepted, refused}
use Rattle.format.specs.Fields.{Form, today, old, Pair, EncryptedDataKey}
use Rattle.format.specs.Shared.{id_length}
use Rattle.format.specs.Policies.{Policy, no_policy, forbid_encrypt_allow_decrypt, require_encrypt_allow_decrypt, require_encrypt_require_decrypt, lets_write}
use Rattle.format.specs.Body.{image}
use Rattle.format.specs.Checks.{Check, check, first, lead_checks, form_checks, closing_checks, pair_checks, key_checks, frame_checks, content_checks, content_length, pairs_checks, keys_checks, body_checks_under, frames_checks}
use Rattle.format.specs.Lent.{Writing, refusal_of, written_of, written, size_of, table_checks, frames_in, BodyToWrite, fields_to_write, writing_header_body_under, writing_header_body, writing_frames}
use Rattle.format.specs.Demand3.{the_old, mark_by}
use Rattle.format.specs.Size.{SizeLaw, writing_policy_refusals, size_refusals, frames_size_refusals, GivenBy, marked, longer, SizeLaws}
use Rattle.format.proofs.Tests.{nleb_is, is_leb, is_nleb, is_eqb}
use Rattle.format.proofs.Firsts.{holds, split, first_stop, first_none, first_some}
use Rattle.format.proofs.Members.{has, has_all, is_member, no_member}
use Rattle.format.proofs.Numbered.{Numbered, none_numbered, then_numbered, check_numbered, sure_numbered, numbered_as, each_numbered}
use Rattle.format.proofs.Writers.{of_accepted, of_refused, none_then, writer_law}
use Rattle.format.proofs.Written.{same_images}

-- every writer
module _ (w : Writing) where
  module _ (out : List ℕ) where
    refused_then : (k : ℕ) → first w.checks ≡ some k → refusal_of w out ≡ some k
    unfolding refusal_of
    refused_then k e = first_some w.checks _ k e

    short_then : first w.checks ≡ none → length out < length w.image → refusal_of w out ≡ some 28
    unfolding refusal_of
    short_then e h = first_none w.checks _ e ∙ first_stop 28 _ [] (nleb_is _ _ h)

    -- where none of them applies, whether the output is long enough
    abbrev Fits : Type 0
    Fits = (length w.image ≤ length out) × (written w out ≡ accepted tt (length w.image))

    abbrev Short : Type 0
    Short = (length out < length w.image) × (written w out ≡ refused 28 0)

    answers : (o : Option ℕ) → refusal_of w out ≡ o → written w out ≡ written_of o w.image
    answers o e = ap (λ (x : Option ℕ). written_of x w.image) e

    fits_or_not : first w.checks ≡ none → Fits ⊎ Short
    fits_or_not e = go (leb (length w.image) (length out)) refl
      where
        go : (b : Bool) → leb (length w.image) (length out) ≡ b → Fits ⊎ Short
        go true q = let h = is_leb _ _ q in inl (h, answers none (none_then w out e h))
        go false q = let h = is_nleb _ _ q in inr (h, answers (some 28) (short_then e h))

    refuses : (k p : ℕ) → size_of w ≡ refused k p → written w out ≡ refused k p
    refuses k p e = let (f, z) = of_refused w.image (first w.checks) k p e in answers (some k) (refused_then k f) ∙ ap (refused k) (sym z)

    is_short : (n : ℕ) → size_of w ≡ accepted tt n → written w out ≡ refused 28 0 → length out < n
    is_short n e q = let (f, d) = of_accepted w.image (first w.checks) n e in go d (fits_or_not f)
      where
        go : n ≡ length w.image → Fits ⊎ Short → length out < n
        go d (inl (h, a)) = let z : ◌≡◌ {A = ℕ} 0 1 = cc in absurd (omega arith)
        go d (inr (h, a)) = rw d h

    short_is : (n : ℕ) → size_of w ≡ accepted tt n → length out < n → written w out ≡ refused 28 0
    short_is n e h = let (f, d) = of_accepted w.image (first w.checks) n e in answers (some 28) (short_then f (rw d at h))

    reports : (n : ℕ) → size_of w ≡ accepted tt n → n ≤ length out → written w out ≡ accepted tt n
    reports n e h = let (f, d) = of_accepted w.image (first w.checks) n e in answers none (none_then w out f (rw d at h)) ∙ ap (accepted tt) (sym d)

    refusal_given : (o : Option ℕ) → first w.checks ≡ o → (k p : ℕ) → written w out ≡ refused k p → (k ≡ 28 → ⊥) → written_of o w.image ≡ refused k p
    refusal_given none e k p q other = go (fits_or_not e)
      where
        go : Fits ⊎ Short → written_of none w.image ≡ refused k p
        go (inl (h, a)) = sym a ∙ q
        go (inr (h, a)) = absurd (other (cc))
    refusal_given (some j) e k p q other = sym (answers (some j) (refused_then j e)) ∙ q

    length_given : (o : Option ℕ) → first w.checks ≡ o → (n : ℕ) → written w out ≡ accepted tt n → written_of o w.image ≡ accepted tt n
    length_given none e n q = ap (accepted tt) (sym (of_accepted w.image (refusal_of w out) n q).1)
    length_given (some j) e n q = sym (answers (some j) (refused_then j e)) ∙ q

  pub size_law : SizeLaw w
  size_law =
      record {
        refuses = λ k p e out. (let q = refuses out k p e in (q, ((writer_law w out).keeps k p q).1));
        too_short = λ n e out. record { onward = is_short out n e; back = short_is out n e };
        reports = λ n e out h. reports out n e h;
        refusal_given = λ out k p q other. refusal_given out (first w.checks) refl k p q other;
        length_given = λ out n q. length_given out (first w.checks) refl n q;
      }

-- the refusals of a body and of frames
table_numbered : {ks : List ℕ} {cs : List Check} → has ks 26 ≡ true → (k : ℕ) (text table : List ℕ) → Numbered ks cs → Numbered ks (table_checks k text table ++ cs)
unfolding table_checks
table_numbered e k text table h = check_numbered 26 e (check_numbered 26 e h)

pairs_numbered : (ps : List Pair) → Numbered (size_refusals no_policy) (pairs_checks ps)
unfolding size_refusals writing_policy_refusals pairs_checks
pairs_numbered ps =
    check_numbered 27 refl (check_numbered 27 refl (then_numbered (each_numbered pair_checks (λ done p. check_numbered 10 refl (check_numbered 11 refl (check_numbered 12 refl none_numbered))) [] ps) (check_numbered 13 refl none_numbered)))

keys_numbered : (ks : List EncryptedDataKey) → Numbered (size_refusals no_policy) (keys_checks ks)
unfolding size_refusals writing_policy_refusals keys_checks
keys_numbered ks = check_numbered 27 refl (check_numbered 27 refl (check_numbered 38 refl (each_numbered key_checks (λ done k. check_numbered 16 refl none_numbered) [] ks)))

-- under any policy they are those without one, and 39 where the policy forbids a version
none_more : (policy : Policy) → has_all (size_refusals policy) (size_refusals no_policy) ≡ true
unfolding size_refusals writing_policy_refusals
none_more no_policy = refl
none_more forbid_encrypt_allow_decrypt = refl
none_more require_encrypt_allow_decrypt = refl
none_more require_encrypt_require_decrypt = refl

policy_numbered : (policy : Policy) (version : ℕ) → Numbered (size_refusals policy) (check 39 (lets_write policy version) ∷ [])
unfolding size_refusals writing_policy_refusals
policy_numbered no_policy version = sure_numbered 39 none_numbered
policy_numbered forbid_encrypt_allow_decrypt version = check_numbered 39 refl none_numbered
policy_numbered require_encrypt_allow_decrypt version = check_numbered 39 refl none_numbered
policy_numbered require_encrypt_require_decrypt version = check_numbered 39 refl none_numbered

lead_numbered : (version messageType suite : ℕ) → Numbered (size_refusals no_policy) (lead_checks version messageType suite)
unfolding size_refusals writing_policy_refusals
lead_numbered version messageType suite = check_numbered 3 refl (check_numbered 5 refl (check_numbered 6 refl (check_numbered 7 refl none_numbered)))

-- behind 39
rest_numbered : (b : BodyToWrite) → let f = fields_to_write b in
    Numbered (size_refusals no_policy)
    (check 24 (eqb (length f.messageId) (id_length f.version))
    ∷ ((table_checks 4 b.text b.pairTable ++ pairs_checks f.pairs)
    ++ (form_checks b.form (length f.pairs)
    ++ ((table_checks 6 b.text b.keyTable ++ keys_checks f.keys)
    ++ closing_checks f.version f.contentType f.headerIvLength (length f.suiteData) f.frameLength))))
unfolding size_refusals writing_policy_refusals
rest_numbered b =
    let closing = check_numbered 17 refl (check_numbered 19 refl (check_numbered 25 refl (check_numbered 20 refl none_numbered))) in
    let pairs = table_numbered refl 4 b.text b.pairTable (pairs_numbered (fields_to_write b).pairs) in
    let keys = table_numbered refl 6 b.text b.keyTable (keys_numbered (fields_to_write b).keys) in
    check_numbered 24 refl (then_numbered pairs (check_numbered 33 refl (then_numbered keys closing)))

body_numbered : (policy : Policy) (b : BodyToWrite) → Numbered (size_refusals policy) (writing_header_body_under policy b).checks
unfolding writing_header_body_under body_checks_under fields_to_write
body_numbered policy b =
    then_numbered (numbered_as (size_refusals policy) (none_more policy) (lead_numbered b.version b.messageType b.suite))
    (then_numbered (policy_numbered policy b.version) (numbered_as (size_refusals policy) (none_more policy) (rest_numbered b)))

never_28 : (policy : Policy) → has (size_refusals policy) 28 ≡ false
unfolding size_refusals writing_policy_refusals
never_28 no_policy = refl
never_28 forbid_encrypt_allow_decrypt = refl
never_28 require_encrypt_allow_decrypt = refl
never_28 require_encrypt_require_decrypt = refl

contents_numbered : (frame : ℕ) (ns : List ℕ) → Numbered frames_size_refusals (content_checks frame ns)
unfolding frames_size_refusals content_checks
contents_numbered frame [] = none_numbered
contents_numbered frame (n ∷ []) = check_numbered 35 refl none_numbered
contents_numbered frame (n ∷ k ∷ ns) = check_numbered 37 refl (contents_numbered frame (k ∷ ns))

frames_numbered : (frame : ℕ) (text table : List ℕ) → Numbered frames_size_refusals (writing_frames frame text table).checks
unfolding frames_size_refusals writing_frames frames_checks
frames_numbered frame text table =
    let fs = frames_in text table in
    let each_frame = each_numbered frame_checks (λ done f. check_numbered 19 refl (check_numbered 30 refl none_numbered)) [] fs in
    check_numbered 20 refl
    (table_numbered refl 6 text table (check_numbered 36 refl (check_numbered 27 refl (then_numbered each_frame (contents_numbered frame (map content_length fs))))))

given_by : (ks : List ℕ) → has ks 28 ≡ false → (w : Writing) → Numbered ks w.checks → GivenBy ks w
given_by ks other w h k p e =
    let (f, z) = of_refused w.image (first w.checks) k p e in
    let m = is_member ks k (h.found k f) in
    (m, λ q. no_member ks 28 other (rw q at m), z)

-- marks: where there is no pair, the two have the same checks, and the images differ by two bytes
module _ (b : BodyToWrite) where
  abbrev by_mark : Form → Writing
  by_mark form = writing_header_body (marked form b)

  same_checks : (fields_to_write b).pairs ≡ [] → (by_mark old).checks ≡ (by_mark today).checks
  unfolding writing_header_body_under fields_to_write body_checks_under
  same_checks e = rw e refl

  two_more : (fields_to_write b).pairs ≡ [] → length (by_mark old).image ≡ length (by_mark today).image + 2
  unfolding writing_header_body_under fields_to_write
  two_more e =
      let i = same_images (fields_to_write b) in
      let m : mark_by the_old (fields_to_write b).pairs ≡ old = rw e refl in
      let t : length (image today (fields_to_write b)) ≡ length i.front + length (0x00 ∷ 0x00 ∷ i.back) = ap length (i.today_has e) ∙ length-append i.front (0x00 ∷ 0x00 ∷ i.back) in
      let o : length (image old (fields_to_write b)) ≡ length i.front + length (0x00 ∷ 0x02 ∷ 0x00 ∷ 0x00 ∷ i.back) =
      ap (λ (x : Form). length (image x (fields_to_write b))) (sym m) ∙ ap length (i.old_has e) ∙ length-append i.front (0x00 ∷ 0x02 ∷ 0x00 ∷ 0x00 ∷ i.back) in
      omega (arith, t, o)

  without_pairs : (fields_to_write b).pairs ≡ [] → size_of (by_mark old) ≡ longer 2 (size_of (by_mark today))
  without_pairs e = rw (same_checks e) (go (first (by_mark today).checks))
    where
      go : (o : Option ℕ) → written_of o (by_mark old).image ≡ longer 2 (written_of o (by_mark today).image)
      go none = ap (accepted tt) (two_more e)
      go (some k) = refl

  no_pairs : (ps : List Pair) → eqb (length ps) 0 ≡ true → ps ≡ []
  no_pairs [] e = refl
  no_pairs (p ∷ ps) e = let z = is_eqb (length (p ∷ ps)) 0 e in absurd (omega (arith, z))

  with_a_pair : ((fields_to_write b).pairs ≡ [] → ⊥) → (n : ℕ) → size_of (by_mark old) ≡ accepted tt n → ⊥
  unfolding writing_header_body_under fields_to_write body_checks_under
  with_a_pair h n e =
      let f = (of_accepted (by_mark old).image (first (by_mark old).checks) n e).0 in
      let pairs = table_checks 4 b.text b.pairTable ++ pairs_checks (fields_to_write b).pairs in
      h (no_pairs _ (split pairs _ (holds (by_mark old).checks f).1.1.1.1.1.1).1.0)

pub size_laws : SizeLaws
unfolding size_refusals frames_size_refusals
size_laws =
    record {
      of_writers = size_law;
      of_body = λ policy b. given_by (size_refusals policy) (never_28 policy) (writing_header_body_under policy b) (body_numbered policy b);
      of_frames = λ frame text table. given_by frames_size_refusals refl (writing_frames frame text table) (frames_numbered frame text table);
      old_without_pairs = without_pairs;
      old_with_a_pair = with_a_pair;
    }
