-- What stands before the context section and behind the key section is read exactly as it is written. Assumes nothing.
use mathlib.Core.Path.{◌≡◌, refl, sym, ◌∙◌}
use mathlib.Core.Bool.{Bool, true, false, cond, ◌||◌}
use mathlib.Core.List.{List, [], ◌∷◌, ◌++◌, append-nil}
use Prim.Native.Nat.{ℕ, ◌+◌, ◌<◌}
use native.Mathlib.Omega.{arith}
use native.Mathlib.Nat.{add_assoc}
use lib.Dec.{eqb}
use lib.ListN.{length}
use Rattle.format.specs.Serialize.{write_uint16, write_uint32}
use Rattle.format.specs.Shared.{one_or_two, known, of_version, id_length, iv_length, commit_key_length, read_message_format_version, read_esdk_suite_id, read_content_type}
use Rattle.format.specs.Policies.{Policy, lets_read}
use Rattle.format.specs.Body.{Which, asked, Lead, read_lead_of, read_lead, Opening, after_lead, read_opening, Closing, read_closing_of, read_closing, write_opening_of, write_closing_of}
use Rattle.format.proofs.Tests.{is_eqb, eqb_is}
use Rattle.format.proofs.Exact.{Exact, seq_exact, check_exact, give_exact, revalue}
use Rattle.format.proofs.Serialize.{read_exact, part_at, itself, uint8_exact, uint16_exact, uint32_exact, length_uint16, length_uint32}

-- a number that is 1 or 2
abbrev byte : ℕ → List ℕ
byte x = x ∷ []

one_or_two_small : (x : ℕ) → one_or_two x ≡ true → x < 256
one_or_two_small x t = go (eqb x 1) refl t
  where
    go : (b : Bool) → eqb x 1 ≡ b → (b || eqb x 2) ≡ true → x < 256
    go true e t = let z = is_eqb x 1 e in omega arith
    go false e t = let z = is_eqb x 2 t in omega arith

-- a version that passed is 1 or 2
pub version_is : (v : ℕ) → one_or_two v ≡ true → cond (eqb v 1) 1 2 ≡ v
version_is v t = go (eqb v 1) refl t
  where
    go : (b : Bool) → eqb v 1 ≡ b → (b || eqb v 2) ≡ true → cond b 1 2 ≡ v
    go true e t = sym (is_eqb v 1 e)
    go false e t = sym (is_eqb v 2 t)

abbrev OneOrTwo : ℕ → Type 0
OneOrTwo x = one_or_two x ≡ true

version_exact : Exact read_message_format_version OneOrTwo byte itself
unfolding read_message_format_version
version_exact =
    revalue OneOrTwo byte itself (seq_exact _ uint8_exact λ s v. check_exact 3 _ (give_exact _))
    (λ w o. (w.0, o.1.0, refl, λ s. refl))
    (λ v o. ((v, tt), (one_or_two_small v o, (o, tt)), refl, λ s. refl))

content_exact : Exact read_content_type OneOrTwo byte itself
unfolding read_content_type
content_exact =
    revalue OneOrTwo byte itself (seq_exact _ uint8_exact λ s v. check_exact 17 _ (give_exact _))
    (λ w o. (w.0, o.1.0, refl, λ s. refl))
    (λ v o. ((v, tt), (one_or_two_small v o, (o, tt)), refl, λ s. refl))

pub record SuiteOk (version suite : ℕ) : Type 0 where
  pub wide : suite < 65536
  pub t6 : known suite ≡ true
  pub t7 : of_version version suite ≡ true

suite_exact : (version : ℕ) → Exact (read_esdk_suite_id version) (SuiteOk version) write_uint16 itself
unfolding read_esdk_suite_id
suite_exact version =
    revalue (SuiteOk version) write_uint16 itself (seq_exact _ uint16_exact λ s suite. check_exact _ _ (check_exact _ _ (give_exact _)))
    (λ w o. (w.0, search, append-nil _, λ s. refl))
    (λ suite o. ((suite, tt), search, sym (append-nil _), λ s. refl))

-- after the version byte; true: version 1
pub record RestOk (v1 : Bool) (l : Lead) : Type 0 where
  pub version : l.version ≡ cond v1 1 2
  pub t5 : l.messageType ≡ cond v1 0x80 0
  pub suite : SuiteOk (cond v1 1 2) l.suite

abbrev rest_bytes : Bool → Lead → List ℕ
rest_bytes v1 l = cond v1 (l.messageType ∷ []) [] ++ write_uint16 l.suite

-- they have no places
abbrev as_is : ℕ → Lead → Lead
as_is s l = l

rest_exact : (v1 : Bool) → Exact (read_lead_of v1) (RestOk v1) (rest_bytes v1) as_is
unfolding read_lead_of
rest_exact true =
    revalue (RestOk true) (rest_bytes true) as_is
    (seq_exact _ uint8_exact λ s type. check_exact 5 _ (seq_exact _ (suite_exact 1) λ s suite. give_exact _))
    (λ w o. (record { version = 1; messageType = w.0; suite = w.1.0 }, record { version = refl; t5 = is_eqb _ _ o.1.0; suite = o.1.1.0 }, simp append-nil, λ s. refl))
    (λ l o. let e : l.messageType ≡ 0x80 = o.t5 in
    ((l.messageType, (l.suite, tt)), (omega arith, (eqb_is _ _ e, (o.suite, tt))), simp append-nil, λ s. rw o.version refl))
rest_exact false =
    revalue (RestOk false) (rest_bytes false) as_is
    (seq_exact _ (suite_exact 2) λ s suite. give_exact _)
    (λ w o. (record { version = 2; messageType = 0; suite = w.0 }, record { version = refl; t5 = refl; suite = o.0 }, simp append-nil, λ s. refl))
    (λ l o. ((l.suite, tt), (o.suite, tt), simp append-nil, λ s. rw (o.version, o.t5) refl))

-- up to 7
pub record LeadOk (which : Which) (l : Lead) : Type 0 where
  pub t3 : one_or_two l.version ≡ true
  pub t4 : asked which l.version ≡ true
  pub t5 : l.messageType ≡ cond (eqb l.version 1) 0x80 0
  pub suite : SuiteOk (cond (eqb l.version 1) 1 2) l.suite

abbrev lead_bytes : Lead → List ℕ
lead_bytes l = (l.version ∷ []) ++ rest_bytes (eqb l.version 1) l

lead_exact : (which : Which) → Exact (read_lead which) (LeadOk which) lead_bytes as_is
unfolding read_lead
lead_exact which =
    revalue (LeadOk which) lead_bytes as_is
    (seq_exact _ version_exact λ s v. check_exact 4 _ (rest_exact (eqb v 1)))
    (λ w o.
    let e : w.1.version ≡ w.0 = o.1.1.version ∙ version_is w.0 o.0 in
    (w.1, rw e (record { t3 = o.0; t4 = o.1.0; t5 = o.1.1.t5; suite = o.1.1.suite }), rw e refl, λ s. refl))
    (λ l o. ((l.version, l), (o.t3, (o.t4, record { version = sym (version_is l.version o.t3); t5 = o.t5; suite = o.suite })), refl, λ s. refl))

-- up to the context section
pub record Top : Type 0 where
  pub version : ℕ
  pub messageType : ℕ
  pub suite : ℕ
  pub messageId : List ℕ

abbrev lead_of : Top → Lead
lead_of h = record { version = h.version; messageType = h.messageType; suite = h.suite }

abbrev pub v1_of : Top → Bool
v1_of h = eqb h.version 1

pub record TopOk (which : Which) (policy : Policy) (h : Top) : Type 0 where
  pub lead : LeadOk which (lead_of h)
  pub t39 : lets_read policy h.version ≡ true
  pub sized : length h.messageId ≡ id_length h.version

abbrev pub top_bytes : Top → List ℕ
top_bytes h = (h.version ∷ []) ++ write_opening_of (v1_of h) h.messageType h.suite h.messageId

abbrev pub top_at : ℕ → Top → Opening
top_at s h = record { version = h.version; messageType = h.messageType; suite = h.suite; messageId = part_at (s + 1 + cond (v1_of h) 3 2) h.messageId }

-- how long it is
pub top_long : (v1 : Bool) (version messageType suite : ℕ) (id : List ℕ) → length id ≡ cond v1 16 32 → length ((version ∷ []) ++ write_opening_of v1 messageType suite id) ≡ cond v1 20 35
unfolding write_opening_of write_uint16
top_long true version messageType suite id e = omega arith
top_long false version messageType suite id e = omega arith

-- the ID stands behind the leading fields
led : (v1 : Bool) (l : Lead) (id : List ℕ) → rest_bytes v1 l ++ id ≡ write_opening_of v1 l.messageType l.suite id
unfolding write_opening_of
led true l id = refl
led false l id = refl

rest_long : (v1 : Bool) (l : Lead) → length (rest_bytes v1 l) ≡ cond v1 3 2
rest_long true l = rw length_uint16 refl
rest_long false l = rw length_uint16 refl

id_at : (s : ℕ) (l : Lead) → s + length (lead_bytes l) ≡ s + 1 + cond (eqb l.version 1) 3 2
id_at s l = let e = rest_long (eqb l.version 1) l in omega arith

pub opening_exact : (which : Which) (policy : Policy) → Exact (read_opening which policy) (TopOk which policy) top_bytes top_at
unfolding read_opening after_lead
opening_exact which policy =
    revalue (TopOk which policy) top_bytes top_at
    (seq_exact _ (lead_exact which) λ s l. check_exact 39 _ (seq_exact _ (read_exact (id_length l.version)) λ s id. give_exact _))
    (λ w o.
    let l : Lead = w.0 in (
      record { version = l.version; messageType = l.messageType; suite = l.suite; messageId = w.1.0 },
      record { lead = o.0; t39 = o.1.0; sized = o.1.1.0 },
      rw (append-nil, ← led (eqb l.version 1) l w.1.0) refl,
      λ s. rw (id_at s l) refl,
    ))
    (λ h o. (
      (lead_of h, (h.messageId, tt)),
      (o.lead, (o.t39, (o.sized, tt))),
      rw (append-nil, ← led (v1_of h) (lead_of h) h.messageId) refl,
      λ s. rw (id_at s (lead_of h)) refl,
    ))

-- behind the key section
pub record End : Type 0 where
  pub contentType : ℕ
  pub headerIvLength : ℕ
  pub frameLength : ℕ
  pub suiteData : List ℕ

pub record EndOk (v1 : Bool) (e : End) : Type 0 where
  pub t17 : one_or_two e.contentType ≡ true
  pub t19 : e.headerIvLength ≡ cond v1 iv_length 0
  pub wide : e.frameLength < 4294967296
  pub sized : length e.suiteData ≡ cond v1 0 commit_key_length

abbrev pub end_bytes : Bool → End → List ℕ
end_bytes v1 e = (e.contentType ∷ []) ++ write_closing_of v1 e.headerIvLength e.frameLength e.suiteData

abbrev pub end_at : Bool → ℕ → End → Closing
end_at v1 s e =
    record { contentType = e.contentType; headerIvLength = e.headerIvLength; frameLength = e.frameLength; suiteData = part_at (cond v1 0 (s + 5)) e.suiteData }

-- how long it is
pub end_long : (v1 : Bool) (content iv frame : ℕ) (suiteData : List ℕ) → length suiteData ≡ cond v1 0 commit_key_length
    → length ((content ∷ []) ++ write_closing_of v1 iv frame suiteData) ≡ cond v1 10 37
unfolding write_closing_of write_uint32
end_long true content iv frame suiteData e = omega arith
end_long false content iv frame suiteData e = omega arith

pub no_bytes : (xs : List ℕ) → length xs ≡ 0 → xs ≡ []
no_bytes [] e = refl
no_bytes (x ∷ xs) e = absurd (omega arith)

pub closing_exact : (v1 : Bool) → Exact (read_closing v1) (EndOk v1) (end_bytes v1) (end_at v1)
unfolding read_closing read_closing_of write_closing_of
closing_exact true =
    revalue (EndOk true) (end_bytes true) (end_at true)
    (seq_exact _ content_exact λ s content. seq_exact _ uint32_exact λ s reserved. check_exact 18 _ (seq_exact _ uint8_exact λ s iv. check_exact 19 _ (seq_exact _ uint32_exact λ s frame. give_exact _)))
    (λ w o. (
      record { contentType = w.0; headerIvLength = w.1.1.0; frameLength = w.1.1.1.0; suiteData = [] },
      record { t17 = o.0; t19 = is_eqb _ _ o.1.1.1.1.0; wide = o.1.1.1.1.1.0; sized = refl },
      rw (is_eqb w.1.0 0 o.1.1.0, append-nil (write_uint32 w.1.1.1.0)) refl,
      λ s. refl,
    ))
    (λ e o.
    let iv : e.headerIvLength ≡ iv_length = o.t19 in (
      (e.contentType, (0, (e.headerIvLength, (e.frameLength, tt)))),
      (o.t17, (omega arith, (refl, (omega arith, (eqb_is _ _ iv, (o.wide, tt)))))),
      rw (append-nil (write_uint32 e.frameLength)) refl,
      λ s. rw (no_bytes e.suiteData o.sized) refl,
    ))
closing_exact false =
    revalue (EndOk false) (end_bytes false) (end_at false)
    (seq_exact _ content_exact λ s content. seq_exact _ uint32_exact λ s frame. seq_exact _ (read_exact commit_key_length) λ s commit. give_exact _)
    (λ w o. (
      record { contentType = w.0; headerIvLength = 0; frameLength = w.1.0; suiteData = w.1.1.0 },
      record { t17 = o.0; t19 = refl; wide = o.1.0; sized = o.1.1.0 },
      simp append-nil,
      λ s. rw (length_uint32, add_assoc s 1 4) refl,
    ))
    (λ e o. (
      (e.contentType, (e.frameLength, (e.suiteData, tt))),
      (o.t17, (o.wide, (o.sized, tt))),
      simp append-nil,
      λ s. rw (length_uint32, add_assoc s 1 4, o.t19) refl,
    ))
