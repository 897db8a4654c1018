-- In which order a reissue refuses, what is told of it before, and that a version 2 draft gets 4. Assumes nothing.
use mathlib.Core.Path.{◌≡◌, refl, sym, ap, ◌∙◌}
use mathlib.Core.Bool.{Bool, true, false, cond}
use mathlib.Core.Option.{Option, none, some}
use mathlib.Core.List.{List, [], ◌∷◌, ◌++◌}
use Prim.Native.Nat.{ℕ, ◌*◌, ◌≤◌, ◌<◌}
use native.Mathlib.Omega.{arith}
use lib.Dec.{leb}
use lib.ListN.{length, drop}
use Rattle.format.specs.Read.{ReadResult, success, more_needed, error, Reader, go_on, ◌>>=◌, ◌>>◌, return, test, Answer, accepted, refused, answer, at, addressable, operation}
use Rattle.format.specs.Serialize.{Bytes, same_bytes}
use Rattle.format.specs.Fields.{HeaderBody}
use Rattle.format.specs.Context.{tolerant}
use Rattle.format.specs.Keys.{no_max}
use Rattle.format.specs.Policies.{no_policy}
use Rattle.format.specs.Body.{either, v1_only, read_body, image}
use Rattle.format.specs.Checks.{Check, check, first}
use Rattle.format.specs.OnlyAuthenticated.{fitting}
use Rattle.format.specs.Lengths.{JustWhere}
use Rattle.format.specs.Demand3.{stands_at}
use Rattle.format.specs.Mending.{without_tables, read_draft}
use Rattle.format.specs.Mended.{tables_hold}
use Rattle.format.specs.Reissuing.{Reissue, reissued_image, reissued_header_body, reissue_header_body}
use Rattle.format.specs.Reissued.{reading, reissue_checks, by_checks, behind_reading, InOrder, OtherDirection, Told}
use Rattle.format.proofs.Tests.{is_leb, is_nleb, leb_is, nleb_is, eqb_is}
use Rattle.format.proofs.Body.{Sent, body_exact}
use Rattle.format.proofs.Messages.{cases, refused_is_no_accepted, accepted_took, refused_stays, accepted_goes_on}
use Rattle.format.proofs.OneVersion.{sentence_3}
use Rattle.format.proofs.WithoutTables.{without_tables_or_maximum}

-- an operation that goes on answers by what the first one answered
abbrev then_by : {A B : Type 0} → (A → ℕ → Answer B) → Answer A → Answer B
then_by g (accepted a t) = g a t
then_by g (refused k p) = refused k p

goes_by : {A B : Type 0} (r : Reader A) (f : A → Reader B) (g : A → ℕ → Answer B) → ((a : A) (l : List ℕ) (t : ℕ) → answer (f a l t) ≡ g a t)
    → (m : List ℕ) (s : ℕ) → operation (r >>= f) m s ≡ then_by g (operation r m s)
unfolding operation at ◌>>=◌
goes_by {A} {B} r f g h m s = go (addressable m s)
  where
    inner : (x : ReadResult A) → answer (go_on x f) ≡ then_by g (answer x)
    inner (success a l t) = h a l t
    inner (more_needed p) = refl
    inner (error k) = refl

    go : (b : Bool) → elim b as (λ x. Answer B) [ true ↦ answer (go_on (r (drop s m) s) f) | false ↦ refused 1 0 ]
        ≡ then_by g (elim b as (λ x. Answer A) [ true ↦ answer (r (drop s m) s) | false ↦ refused 1 0 ])
    go true = inner (r (drop s m) s)
    go false = refl

-- one test more
tested : (k : ℕ) (c : Bool) (cs : List Check) (r : Reader (List ℕ)) (image l : List ℕ) (t : ℕ) → answer (r l t) ≡ by_checks (first cs) image t
    → answer ((test k c >> r) l t) ≡ by_checks (first (check k c ∷ cs)) image t
unfolding test ◌>>◌ first
tested k true cs r image l t h = h
tested k false cs r image l t h = refl

module _ (a : Reissue) where
  by_reading : (checks : HeaderBody → List Check) (o : Answer HeaderBody) → then_by (λ b t. by_checks (first (checks b)) (reissued_image a b) t) o ≡ behind_reading checks a o
  by_reading checks (accepted b t) = refl
  by_reading checks (refused k p) = refl

  given : (b : HeaderBody) (l : List ℕ) (t : ℕ) → answer (return (reissued_image a b) l t) ≡ by_checks (first []) (reissued_image a b) t
  unfolding return first
  given b l t = refl

  told_so : (m : List ℕ) (s : ℕ) → operation (reissued_header_body a) m s ≡ behind_reading (reissue_checks a) a (reading m s)
  unfolding reissued_header_body
  told_so m s =
      goes_by (read_body (without_tables v1_only)) _ (λ b t. by_checks (first (reissue_checks a b)) (reissued_image a b) t)
      (λ b l t. tested 20 _ _ _ _ l t (tested 6 _ _ _ _ l t (tested 7 _ _ _ _ l t (tested 24 _ _ _ _ l t (tested 25 _ [] (return (reissued_image a b)) _ l t (given b l t))))))
      m s
      ∙ by_reading (reissue_checks a) (reading m s)

  -- and 28
  abbrev fits : ℕ → List ℕ → ℕ → Answer (List ℕ)
  fits room image t = cond (leb (length image) room) (accepted image t) (refused 28 0)

  fitted : (room : ℕ) (image l : List ℕ) (t : ℕ) → answer (fitting room image l t) ≡ fits room image t
  unfolding fitting test ◌>>◌ return
  fitted room image l t = go (leb (length image) room)
    where
      go : (c : Bool) → answer ((test 28 c >> return image) l t) ≡ cond c (accepted image t) (refused 28 0)
      go true = refl
      go false = refl

  pub by_size : (room : ℕ) (m : List ℕ) (s : ℕ) → operation (reissue_header_body a room) m s ≡ then_by (fits room) (operation (reissued_header_body a) m s)
  unfolding reissue_header_body
  by_size room m s = goes_by (reissued_header_body a) (fitting room) (fits room) (fitted room) m s

  one_check_more : (cs : List Check) (room : ℕ) (image : List ℕ) (t : ℕ)
      → then_by (fits room) (by_checks (first cs) image t) ≡ by_checks (first (cs ++ (check 28 (leb (length image) room) ∷ []))) image t
  unfolding first
  one_check_more [] room image t = go (leb (length image) room)
    where
      go : (c : Bool) → cond c (accepted image t) (refused 28 0) ≡ by_checks (elim c as (λ x. Option ℕ) [ true ↦ none | false ↦ some 28 ]) image t
      go true = refl
      go false = refl
  one_check_more (c ∷ cs) room image t = go c.passes (one_check_more cs room image t)
    where
      go : (b : Bool) → then_by (fits room) (by_checks (first cs) image t) ≡ by_checks (first (cs ++ (check 28 (leb (length image) room) ∷ []))) image t
          → then_by (fits room) (by_checks (elim b as (λ x. Option ℕ) [ true ↦ first cs | false ↦ some c.number ]) image t)
          ≡ by_checks (elim b as (λ x. Option ℕ) [ true ↦ first (cs ++ (check 28 (leb (length image) room) ∷ [])) | false ↦ some c.number ]) image t
      go true h = h
      go false h = refl

  behind_size : (room : ℕ) (o : Answer HeaderBody) → then_by (fits room) (behind_reading (reissue_checks a) a o)
      ≡ behind_reading (λ b. reissue_checks a b ++ (check 28 (leb (length (reissued_image a b)) room) ∷ [])) a o
  behind_size room (accepted b t) = one_check_more (reissue_checks a b) room (reissued_image a b) t
  behind_size room (refused k p) = refl

  pub in_order : (m : List ℕ) (s : ℕ) → InOrder a m s
  in_order m s = record { told = told_so m s; written = λ room. by_size room m s ∙ ap (then_by (fits room)) (told_so m s) ∙ behind_size room (reading m s) }

  module _ (m : List ℕ) (s : ℕ) where
    refuses : (k p : ℕ) → operation (reissued_header_body a) m s ≡ refused k p → (room : ℕ) → operation (reissue_header_body a room) m s ≡ refused k p
    refuses k p e room = by_size room m s ∙ ap (then_by (fits room)) e

    sized : (image : List ℕ) (t : ℕ) → operation (reissued_header_body a) m s ≡ accepted image t → (room : ℕ) → operation (reissue_header_body a room) m s ≡ fits room image t
    sized image t e room = by_size room m s ∙ ap (then_by (fits room)) e

    reports : (image : List ℕ) (t : ℕ) → operation (reissued_header_body a) m s ≡ accepted image t → (room : ℕ) → length image ≤ room → operation (reissue_header_body a room) m s ≡ accepted image t
    reports image t e room h = sized image t e room ∙ rw (leb_is (length image) room h) refl

    too_short : (image : List ℕ) (t : ℕ) → operation (reissued_header_body a) m s ≡ accepted image t → (room : ℕ)
        → JustWhere (operation (reissue_header_body a room) m s ≡ refused 28 0) (room < length image)
    too_short image t e room = record { onward = λ q. by (leb (length image) room) refl (sym (sized image t e room) ∙ q); back = λ h. sized image t e room ∙ rw (nleb_is (length image) room h) refl }
      where
        by : (c : Bool) → leb (length image) room ≡ c → ◌≡◌ {A = Answer (List ℕ)} (cond c (accepted image t) (refused 28 0)) (refused 28 0) → room < length image
        by true p q = refused_is_no_accepted (sym q)
        by false p q = is_nleb (length image) room p

    -- by what was told
    abbrev Case : Answer (List ℕ) → Type 0
    Case o = operation (reissued_header_body a) m s ≡ o

    refusal_given : (room k p : ℕ) → operation (reissue_header_body a room) m s ≡ refused k p → (k ≡ 28 → ⊥) → operation (reissued_header_body a) m s ≡ refused k p
    refusal_given room k p e not = by (operation (reissued_header_body a) m s) refl
      where
        of : (c : Bool) (image : List ℕ) (t : ℕ) → ◌≡◌ {A = Answer (List ℕ)} (cond c (accepted image t) (refused 28 0)) (refused k p) → operation (reissued_header_body a) m s ≡ refused k p
        of true image t q = refused_is_no_accepted (sym q)
        of false image t q = absurd (not (let z : 28 ≡ k = cc in sym z))

        by : (o : Answer (List ℕ)) → Case o → operation (reissued_header_body a) m s ≡ refused k p
        by (accepted image t) f = of (leb (length image) room) image t (sym (sized image t f room) ∙ e)
        by (refused j q) f = f ∙ sym (refuses j q f room) ∙ e

    image_given : (room : ℕ) (image : List ℕ) (t : ℕ) → operation (reissue_header_body a room) m s ≡ accepted image t
        → (operation (reissued_header_body a) m s ≡ accepted image t) × (length image ≤ room)
    image_given room image t e = by (operation (reissued_header_body a) m s) refl
      where
        of : (c : Bool) (i : List ℕ) (u : ℕ) → leb (length i) room ≡ c → Case (accepted i u) → ◌≡◌ {A = Answer (List ℕ)} (cond c (accepted i u) (refused 28 0)) (accepted image t)
            → (operation (reissued_header_body a) m s ≡ accepted image t) × (length image ≤ room)
        of true i u p f q = let z : i ≡ image = cc in (f ∙ q, rw z at (is_leb (length i) room p))
        of false i u p f q = refused_is_no_accepted q

        by : (o : Answer (List ℕ)) → Case o → (operation (reissued_header_body a) m s ≡ accepted image t) × (length image ≤ room)
        by (accepted i u) f = of (leb (length i) room) i u refl f (sym (sized i u f room) ∙ e)
        by (refused k p) f = refused_is_no_accepted (sym (refuses k p f room) ∙ e)

    pub told : Told a m s
    told = record { refuses = refuses; too_short = too_short; reports = reports; refusal_given = refusal_given; image_given = image_given }

-- A VERSION 2 DRAFT. The reader of version 1 only refuses the other version's byte, with tables or without.
not_4 : (b : HeaderBody) (l : List ℕ) (t : ℕ) → answer (tables_hold 0 0 b l t) ≡ refused 4 0 → ⊥
unfolding test ◌>>◌ return
not_4 b l t = go (leb (4 * length b.pairs) 0) (leb (6 * length b.keys) 0)
  where
    go : (c d : Bool) → answer ((test 22 c >> (test 23 d >> return b)) l t) ≡ refused 4 0 → ⊥
    go true true e = refused_is_no_accepted (sym e)
    go true false e = let z : ◌≡◌ {A = ℕ} 23 4 = cc in absurd (omega arith)
    go false d e = let z : ◌≡◌ {A = ℕ} 22 4 = cc in absurd (omega arith)

gets_4 : (m : List ℕ) (s : ℕ) → length m ≤ 4294967295 → stands_at 2 m s ≡ true → reading m s ≡ refused 4 0
gets_4 m s few there = by (reading m s) refl
  where
    with_tables : operation (read_body (without_tables v1_only) >>= tables_hold 0 0) m s ≡ refused 4 0
    with_tables = sym (without_tables_or_maximum.tables_come_last v1_only 0 0 m s) ∙ (sentence_3 no_policy tolerant no_max 0 0 m s few).version_1 ∙ rw there refl

    by : (o : Answer HeaderBody) → reading m s ≡ o → reading m s ≡ refused 4 0
    by (accepted b t) e = let (l, q) = accepted_goes_on (read_body (without_tables v1_only)) (tables_hold 0 0) m s b t e in absurd (not_4 b l t (sym q ∙ with_tables))
    by (refused k p) e = let q = refused_stays (read_body (without_tables v1_only)) (tables_hold 0 0) m s k p e in let z = sym q ∙ with_tables in e ∙ cc

pub stands_first : (m : List ℕ) (s x : ℕ) (rest : List ℕ) → drop s m ≡ x ∷ rest → stands_at x m s ≡ true
unfolding same_bytes
stands_first m s x rest e = rw e (eqb_same x)
  where
    eqb_same : (x : ℕ) → same_bytes (x ∷ []) (x ∷ []) ≡ true
    eqb_same x = rw (eqb_is x x refl) refl

module _ (a : Reissue) (room : ℕ) (m : List ℕ) (s : ℕ) where
  by_its_byte : length m ≤ 4294967295 → stands_at 2 m s ≡ true → operation (reissue_header_body a room) m s ≡ refused 4 0
  by_its_byte few there = (in_order a m s).written room ∙ ap (behind_reading _ a) (gets_4 m s few there)

  of_a_draft : Bytes m → (b : HeaderBody) (t : ℕ) → operation read_draft m s ≡ accepted b t → b.version ≡ 2 → operation (reissue_header_body a room) m s ≡ refused 4 0
  unfolding read_draft image
  of_a_draft hb b t e v2 =
      let (l, x) = accepted_took (body_exact (without_tables either)) m s hb b t e in
      let v : Sent = x.value in
      let is2 : v.fields.version ≡ 2 = sym (ap (λ (y : HeaderBody). y.version) x.placed) ∙ v2 in
      by_its_byte (cases (read_body (without_tables either)) m s (λ no. refused_is_no_accepted (sym no ∙ e)) (λ h k is. h)) (rw is2 at (stands_first m s v.fields.version _ x.split))

  pub other_direction : OtherDirection a room m s
  other_direction = record { by_its_byte = by_its_byte; of_a_draft = of_a_draft }
