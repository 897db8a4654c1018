-- The lengths that stand on both sides of demand 3, each held to its number. Assumes nothing.
use mathlib.Core.Path.{◌≡◌, refl, sym, ap, ◌∙◌}
use mathlib.Core.Bool.{Bool, true, false, not, cond, ◌||◌}
use mathlib.Core.Logic.{⊎_elim}
use mathlib.Core.Option.{Option, none, some}
use mathlib.Core.List.Memᴰ
use mathlib.Core.List.{List, [], ◌∷◌, ◌++◌, map, Memᴰ}
use Prim.Native.Nat.{ℕ, suc, ◌+◌, ◌≤◌, ◌<◌}
use native.Mathlib.Omega.{arith}
use lib.Dec.{leb, ltb, eqb}
use lib.ListN.{length, length-append}
use Rattle.format.specs.Read.{ReadResult, success, more_needed, error, go_on, ◌>>=◌, ◌>>◌, return, test, no_end, accepted, operation}
use Rattle.format.specs.Serialize.{Bytes, images}
use Rattle.format.specs.Shared.{by, one_or_two, suite_version, id_length, iv_length, tag_length, commit_key_length}
use Rattle.format.specs.Fields.{Form, Pair, PairAt, pair_of, pair_parts, Fields, HeaderBody}
use Rattle.format.specs.Context.{seen, pair_length, linear_length, pairs_limit, Mode, read_aad_pair}
use Rattle.format.specs.Source.{source_read_next_aad_pair}
use Rattle.format.specs.Keys.{Max}
use Rattle.format.specs.Policies.{Policy}
use Rattle.format.specs.Body.{Which, Opening, read_opening, request, tests_frames, read_header_body_under, read_header_body}
use Rattle.format.specs.Auth.{HeaderAuth, read_header_auth_tag, write_header_auth_tag}
use Rattle.format.specs.Checks.{Check, check, first, each, count_checks, pair_checks, pairs_checks, auth_checks, Accepts}
use Rattle.format.specs.Demand3.{Has}
use Rattle.format.specs.Lengths.{JustWhere, TakesTooMuch, Sized, version_1, version_2, OpeningSized, opening_1, opening_2, Lengths}
use Rattle.format.proofs.Tests.{leb_is, nleb_is, is_leb, is_nleb, is_eqb}
use Rattle.format.proofs.Firsts.{holds, unheld, split, join}
use Rattle.format.proofs.Context.{with_one_more}
use Rattle.format.proofs.Ends.{opening_exact}
use Rattle.format.proofs.Body.{BodyOk, body_exact}
use Rattle.format.proofs.Accepts.{good}
use Rattle.format.proofs.ListedLaws.{Fine}
use Rattle.format.proofs.Listed.{pair_listed}
use Rattle.format.proofs.Messages.{accepted_took}
use Rattle.format.proofs.Strict.{reached}
use Rattle.format.proofs.Find.{seen_has, has_seen}
use Rattle.format.proofs.Sections.{section_laws}

-- 13 in the source's reading
not_13 : (k : ℕ) → k ≡ 13 → Memᴰ k (10 ∷ 11 ∷ []) → ⊥
not_13 k e h = ⊎_elim (λ q. omega arith) (λ m. ⊎_elim (λ q. omega arith) Memᴰ.not-nil (Memᴰ.cases_cons m)) (Memᴰ.cases_cons h)

module _ (acc : List PairAt) where
  -- behind a pair that was read
  abbrev tests : PairAt → List ℕ → ℕ → ReadResult PairAt
  tests p l t = (test 12 (not (seen p.key.bytes (map pair_of acc))) >> (test 13 (ltb (linear_length (map pair_of acc) + pair_length (pair_of p)) pairs_limit) >> return p)) l t

  is_13 : (p : PairAt) (l : List ℕ) (t : ℕ) → tests p l t ≡ error 13 → (Has p.key.bytes acc → ⊥) × (65534 ≤ linear_length (map pair_of (acc ++ (p ∷ []))))
  unfolding test ◌>>◌ return
  is_13 p l t e = go (seen p.key.bytes (map pair_of acc)) refl (ltb (linear_length (map pair_of acc) + pair_length (pair_of p)) pairs_limit) refl e
    where
      go : (b : Bool) → seen p.key.bytes (map pair_of acc) ≡ b → (c : Bool) → ltb (linear_length (map pair_of acc) + pair_length (pair_of p)) pairs_limit ≡ c
          → (test 12 (not b) >> (test 13 c >> return p)) l t ≡ error 13 → (Has p.key.bytes acc → ⊥) × (65534 ≤ linear_length (map pair_of (acc ++ (p ∷ []))))
      go true q c r e = let z : ◌≡◌ {A = ℕ} 12 13 = cc in absurd (omega arith)
      go false q true r e = let z : ◌≡◌ {A = ℕ} 0 1 = cc in absurd (omega arith)
      go false q false r e =
          let far = is_nleb (suc (linear_length (map pair_of acc) + pair_length (pair_of p))) pairs_limit r in
          let sum_is_lem = with_one_more acc p in
          (λ h. (let w : true ≡ false = sym (has_seen p.key.bytes acc h) ∙ q in let z : ◌≡◌ {A = ℕ} 0 1 = cc in omega arith), omega arith)

  then_13 : (p : PairAt) (l : List ℕ) (t : ℕ) → (Has p.key.bytes acc → ⊥) → 65534 ≤ linear_length (map pair_of (acc ++ (p ∷ []))) → tests p l t ≡ error 13
  unfolding test ◌>>◌
  then_13 p l t new long = go (seen p.key.bytes (map pair_of acc)) refl
    where
      go : (b : Bool) → seen p.key.bytes (map pair_of acc) ≡ b → tests p l t ≡ error 13
      go true q = absurd (new (seen_has p.key.bytes acc q))
      go false q =
          let sum_is_lem = with_one_more acc p in
          let far : ltb (linear_length (map pair_of acc) + pair_length (pair_of p)) pairs_limit ≡ false = nleb_is (suc (linear_length (map pair_of acc) + pair_length (pair_of p))) pairs_limit (omega arith) in
          rw (q, far) refl

  pairs_refused : (l : List ℕ) (s : ℕ) → JustWhere (source_read_next_aad_pair acc l s ≡ error 13) (TakesTooMuch acc l s)
  unfolding source_read_next_aad_pair ◌>>=◌
  pairs_refused l s = record { onward = go (read_aad_pair no_end l s) refl; back = λ h. ap (λ x. go_on x tests) h.is_read ∙ then_13 h.pair h.left h.tail h.new h.too_much }
    where
      go : (x : ReadResult PairAt) → read_aad_pair no_end l s ≡ x → go_on x tests ≡ error 13 → TakesTooMuch acc l s
      go (success p l' t) e q = let z = is_13 p l' t q in record { pair = p; left = l'; tail = t; is_read = e; new = z.0; too_much = z.1 }
      go (more_needed w) e q = let z : ◌≡◌ {A = ℕ} 0 1 = cc in absurd (omega arith)
      go (error k) e q =
          let k13 : k ≡ 13 = cc in
          let ten_eleven : Fine (10 ∷ 11 ∷ []) (s + length l) (read_aad_pair no_end l s) = (pair_listed no_end).fine l s in
          absurd (not_13 k k13 (rw e at ten_eleven))

-- 13 on writing
last_fails : (cs : List Check) (k : ℕ) (b : Bool) → first cs ≡ none → b ≡ false → first (cs ++ (check k b ∷ [])) ≡ some k
unfolding first
last_fails [] k b h e = rw (e, first) refl
last_fails (c ∷ cs) k b h e = let (p, rest) = holds (c ∷ cs) h in rw (p, first) (last_fails cs k b (unheld cs rest) e)

pairs_written : (ps : List Pair) → first (pairs_checks ps) ≡ none → linear_length ps < 65534
unfolding pairs_checks
pairs_written ps h =
    let front = count_checks (length ps) (images pair_parts ps) ++ each pair_checks [] ps in
    let z = split front (check 13 (ltb (linear_length ps) pairs_limit) ∷ []) (holds (pairs_checks ps) h) in
    let r = is_leb (suc (linear_length ps)) pairs_limit z.1.0 in
    omega arith

pairs_not_written : (ps : List Pair) → first (count_checks (length ps) (images pair_parts ps) ++ each pair_checks [] ps) ≡ none
    → JustWhere (first (pairs_checks ps) ≡ some 13) (65534 ≤ linear_length ps)
unfolding pairs_checks
pairs_not_written ps h = record { onward = go (leb 65534 (linear_length ps)) refl; back = λ long. last_fails front 13 (ltb (linear_length ps) pairs_limit) h (nleb_is (suc (linear_length ps)) pairs_limit (omega arith)) }
  where
    front : List Check
    front = count_checks (length ps) (images pair_parts ps) ++ each pair_checks [] ps

    go : (b : Bool) → leb 65534 (linear_length ps) ≡ b → first (pairs_checks ps) ≡ some 13 → 65534 ≤ linear_length ps
    go true e q = is_leb 65534 (linear_length ps) e
    go false e q =
        let short = is_nleb 65534 (linear_length ps) e in
        let passes = join front (check 13 (ltb (linear_length ps) pairs_limit) ∷ []) (holds front h) (leb_is (suc (linear_length ps)) pairs_limit (omega arith), tt) in
        let no : ◌≡◌ {A = Option ℕ} none (some 13) = sym (unheld (pairs_checks ps) passes) ∙ q in
        let z : ◌≡◌ {A = ℕ} 0 1 = cc in
        absurd (omega arith)

-- by version
opening_sized : (s version id tail : ℕ) → one_or_two version ≡ true → id ≡ cond (eqb version 1) (id_length 1) (id_length 2) → tail ≡ s + by version 20 35 → OpeningSized s version id tail
opening_sized s version id tail e i t = go (eqb version 1) refl e i t
  where
    go : (b : Bool) → eqb version 1 ≡ b → (b || eqb version 2) ≡ true → id ≡ cond b (id_length 1) (id_length 2) → tail ≡ s + cond b 20 35 → OpeningSized s version id tail
    go true q e i t = rw (is_eqb version 1 q, i, t) opening_1
    go false q e i t = rw (is_eqb version 2 e, i, t) opening_2

sized : (version type id iv suiteData : ℕ) → one_or_two version ≡ true → type ≡ cond (eqb version 1) 0x80 0 → id ≡ cond (eqb version 1) (id_length 1) (id_length 2) → iv ≡ cond (eqb version 1) iv_length 0
    → suiteData ≡ cond (eqb version 1) 0 commit_key_length → Sized version type id iv suiteData
sized version type id iv suiteData e y i j d = go (eqb version 1) refl e y i j d
  where
    go : (b : Bool) → eqb version 1 ≡ b → (b || eqb version 2) ≡ true → type ≡ cond b 0x80 0 → id ≡ cond b (id_length 1) (id_length 2) → iv ≡ cond b iv_length 0 → suiteData ≡ cond b 0 commit_key_length
        → Sized version type id iv suiteData
    go true q e y i j d = rw (is_eqb version 1 q, y, i, j, d) version_1
    go false q e y i j d = rw (is_eqb version 2 e, y, i, j, d) version_2

opening_read : (which : Which) (policy : Policy) (m : List ℕ) (s : ℕ) → Bytes m → (o : Opening) (t : ℕ) → operation (read_opening which policy) m s ≡ accepted o t
    → OpeningSized s o.version (length o.messageId.bytes) t
opening_read which policy m s hb o t e =
    let (l, x) = accepted_took (opening_exact which policy) m s hb o t e in
    let g = x.good in
    let v : o.version ≡ x.value.version = ap (λ z. z.version) x.placed in
    let i : length o.messageId.bytes ≡ length x.value.messageId = ap (λ z. length z.messageId.bytes) x.placed in
    opening_sized s o.version (length o.messageId.bytes) t (rw v g.lead.t3) (rw v (i ∙ g.sized)) (reached which policy m s hb o t e)

body_read : (which : Which) (mode : Mode) (max : Max) (pairRoom keyRoom : ℕ) (m : List ℕ) (s : ℕ) → Bytes m → (b : HeaderBody) (t : ℕ)
    → operation (read_header_body which mode max pairRoom keyRoom) m s ≡ accepted b t
    → Sized b.version b.messageType (length b.messageId.bytes) b.headerIvLength (length b.suiteData.bytes)
unfolding read_header_body_under
body_read which mode max pairRoom keyRoom m s hb b t e =
    let q = request which mode (tests_frames which) max pairRoom keyRoom in
    let (l, x) = accepted_took (body_exact q) m s hb b t e in
    let f : Fields = x.value.fields in
    let g : BodyOk q x.value = x.good in
    rw x.placed (sized f.version f.messageType (length f.messageId) f.headerIvLength (length f.suiteData) g.top.lead.t3 g.top.lead.t5 g.top.sized g.end.t19 g.end.sized)

body_written : (form : Form) (f : Fields) → Accepts form f → Sized f.version f.messageType (length f.messageId) f.headerIvLength (length f.suiteData)
body_written form f a =
    let g = good form f a in
    sized f.version f.messageType (length f.messageId) f.headerIvLength (length f.suiteData) g.top.lead.t3 g.top.lead.t5 g.top.sized g.end.t19 g.end.sized

-- the authentication record
auth_written : (suite iv tag : ℕ) → first (auth_checks suite iv tag) ≡ none → (iv ≡ 12) × (tag ≡ 16)
unfolding auth_checks
auth_written suite iv tag h = let (k, (i, (t, u))) = holds (auth_checks suite iv tag) h in (is_eqb iv iv_length i, is_eqb tag tag_length t)

auth_length : (suite : ℕ) (iv tag : List ℕ) → length iv ≡ 12 → length tag ≡ 16 → length (write_header_auth_tag suite iv tag) ≡ by (suite_version suite) 28 16
unfolding write_header_auth_tag
auth_length suite iv tag i t = go (eqb (suite_version suite) 1)
  where
    go : (b : Bool) → length (cond b (iv ++ tag) tag) ≡ cond b 28 16
    go true = rw (length-append iv tag, i, t) refl
    go false = t

auth_read : (suite : ℕ) (m : List ℕ) (s : ℕ) → Bytes m → (a : HeaderAuth) (t : ℕ) → operation (read_header_auth_tag suite) m s ≡ accepted a t
    → (length a.headerIv ≡ 12) × (length a.headerAuthTag ≡ 16) × (t ≡ s + by (suite_version suite) 28 16)
auth_read suite m s hb a t e =
    let (stands, tail) = (section_laws.auth suite m s hb).only a t e in
    let (i, g) = auth_written suite (length a.headerIv) (length a.headerAuthTag) stands.accepts in
    (i, g, tail ∙ ap (λ n. s + n) (auth_length suite a.headerIv a.headerAuthTag i g))

pub lengths : Lengths
lengths =
    record {
      pairs_read = λ mode room m s hb ps t e. let z = (section_laws.context mode room m s hb).only ps t e in pairs_written (map pair_of ps) z.1.accepts;
      pairs_refused = pairs_refused;
      pairs_written = pairs_written;
      pairs_not_written = pairs_not_written;
      opening_read = opening_read;
      body_read = body_read;
      body_written = body_written;
      auth_read = auth_read;
      auth_written = auth_written;
    }
