-- How many parts a reader may have to wait for, a line a reader. Assumes nothing.
use mathlib.Core.Path.{◌≡◌}
use mathlib.Core.Bool.{Bool, true, false, cond}
use mathlib.Core.List.{List, [], ◌∷◌, ◌++◌, Memᴰ}
use Prim.Native.Nat.{ℕ, zero, suc, ◌+◌, ◌*◌, ◌≤◌}
use native.Mathlib.Omega.{arith}
use lib.Dec.{eqb}
use lib.ListN.{length, length-append}
use Rattle.format.specs.Read.{success, Reader, ◌>>=◌, return, no_end, repeat}
use Rattle.format.specs.Serialize.{read_short_length_seq}
use Rattle.format.specs.Shared.{by, suite_version, read_message_format_version, read_esdk_suite_id, read_content_type}
use Rattle.format.specs.Fields.{PairAt, EncryptedDataKeyAt, HeaderBody}
use Rattle.format.specs.Context.{Mode, tolerant, read_text, read_aad_of, read_aad_section, ContextAt, mark, with_mark, read_aad_section_into, look_up, find_value}
use Rattle.format.specs.OnlyAuthenticated.{fitting, write_only_authenticated}
use Rattle.format.specs.Keys.{Max, read_encrypted_data_key, read_encrypted_data_keys_of, read_encrypted_data_keys_section, read_encrypted_data_keys_section_into}
use Rattle.format.specs.Policies.{Policy}
use Rattle.format.specs.Body.{Which, read_lead_of, read_lead, after_lead, read_opening, read_closing_of, read_closing, Opening, Request, after_keys, after_context, after_opening, read_body}
use Rattle.format.specs.Auth.{read_header_auth_tag_of, read_header_auth_tag}
use Rattle.format.proofs.Takes.{un_go_on}
use Rattle.format.proofs.WantedLaws.{uint16_wants}
use Rattle.format.proofs.Wanted.{section_wants, keys_wants, version_wants, lead_wants, opening_wants, marked_wants}
use Rattle.format.proofs.Helps.{asks_as, asks_on, of_asks, looks}
use Rattle.format.proofs.SteadyLaws.{read_steady, uint8_steady, uint16_steady, uint32_steady}
use Rattle.format.proofs.Steady.{entry_steady, text_steady, section_steady, key_steady, keys_steady, version_steady, suite_steady, lead_steady, opening_steady, content_steady, closing_steady, mark_steady}
use Rattle.format.proofs.RoundsLaws.{Parts, more_parts, bind_parts, return_parts, test_parts, held_parts, read_parts, uint8_parts, uint16_parts, uint32_parts, repeat_parts, return_gives, test_gives, bind_gives, Gives, Few, parts_few, bind_few}

-- an entry, and one of UTF-8
entry_parts : Parts 2 (read_short_length_seq no_end)
unfolding read_short_length_seq
entry_parts = held_parts no_end 2 (bind_parts uint16_steady uint16_parts (λ n. held_parts no_end n (read_parts n)))

text_parts : (k : ℕ) → Parts 2 (read_text no_end k)
unfolding read_text
text_parts k = more_parts 2 (bind_parts (entry_steady no_end) entry_parts (λ p. test_parts k _ (return_parts p))) (omega arith)

-- a context section: what follows its length is there as a whole, or is wanted as a whole
of_parts : (mode : Mode) (b : Bool) (n : ℕ) → Parts 1 (read_aad_of mode b n)
of_parts mode b n =
    record {
      places = λ l s. (s + n) ∷ [];
      covers = λ l e s. asks_as (λ p. p ≡ s + n) (λ p. Memᴰ p ((s + n) ∷ [])) (λ p h. Memᴰ.head h) (read_aad_of mode b n l s) (of_asks mode b n l s);
      few = λ l s. omega arith;
    }

section_parts : (mode : Mode) → Parts 2 (read_aad_section mode)
unfolding read_aad_section
section_parts mode = bind_parts uint16_steady uint16_parts (λ n. of_parts mode (eqb n 0) n)

pub section_into_parts : (mode : Mode) (room : ℕ) → Parts 2 (read_aad_section_into mode room)
unfolding read_aad_section_into
section_into_parts mode room = more_parts 2 (bind_parts (section_steady mode) (section_parts mode) (λ ps. test_parts 22 _ (return_parts ps))) (omega arith)

look_parts : (k : List ℕ) (ps : List PairAt) → Parts 0 (look_up k ps)
look_parts k ps = record { places = λ l s. []; covers = λ l e s. looks (λ p. Memᴰ p []) k ps l s; few = λ l s. omega arith }

pub find_parts : (k : List ℕ) → Parts 2 (find_value k)
unfolding find_value
find_parts k = more_parts 2 (bind_parts (section_steady tolerant) (section_parts tolerant) (λ ps. look_parts k ps)) (omega arith)

pub only_authenticated_parts : (text required : List ℕ) (room : ℕ) → Parts 2 (write_only_authenticated text required room)
unfolding write_only_authenticated fitting
only_authenticated_parts text required room =
    more_parts 2 (bind_parts (section_steady tolerant) (section_parts tolerant) (λ ps. test_parts 31 _ (test_parts 28 _ (return_parts _)))) (omega arith)

-- an authentication record
auth_of_parts : (v1 : Bool) → Parts (cond v1 2 1) (read_header_auth_tag_of v1)
unfolding read_header_auth_tag_of
auth_of_parts true = more_parts 2 (bind_parts (read_steady _) (read_parts _) (λ iv. bind_parts (read_steady _) (read_parts _) (λ tag. return_parts _))) (omega arith)
auth_of_parts false = more_parts 1 (bind_parts (read_steady _) (read_parts _) (λ tag. return_parts _)) (omega arith)

pub auth_parts : (suite : ℕ) → Parts (by (suite_version suite) 2 1) (read_header_auth_tag suite)
unfolding read_header_auth_tag
auth_parts suite = test_parts 6 _ (auth_of_parts (eqb (suite_version suite) 1))

-- a key, and as many of them as the count says
key_parts : Parts 6 read_encrypted_data_key
unfolding read_encrypted_data_key
key_parts =
    more_parts 6 (bind_parts (text_steady no_end 16) (text_parts 16) (λ p. bind_parts (entry_steady no_end) entry_parts (λ i. bind_parts (entry_steady no_end) entry_parts (λ c. return_parts _))))
    (omega arith)

counted_parts : (max : Max) (count : ℕ) → Parts (count * 6) (read_encrypted_data_keys_of max count)
unfolding read_encrypted_data_keys_of
counted_parts max count = test_parts 15 _ (repeat_parts count (λ acc. key_steady) (λ acc. key_parts) [])

repeat_long : {A : Type 0} (n : ℕ) (step : List A → Reader A) (acc : List A) (l : List ℕ) (s : ℕ) (bs : List A) (l' : List ℕ) (t : ℕ) → repeat n step acc l s ≡ success bs l' t → length bs ≡ length acc + n
unfolding repeat return ◌>>=◌
repeat_long zero step acc l s bs l' t e = let z : acc ≡ bs = cc in rw (← z) (omega arith)
repeat_long (suc n) step acc l s bs l' t e =
    let (a, l₁, t₁, e₁, e₂) = un_go_on _ (step acc l s) bs l' t e in
    let z = repeat_long n step (acc ++ (a ∷ [])) l₁ t₁ bs l' t e₂ in
    let y = length-append acc (a ∷ []) in
    omega arith

counted_gives : (max : Max) (count : ℕ) → Gives (λ ks. length ks ≡ count) (read_encrypted_data_keys_of max count)
unfolding read_encrypted_data_keys_of
counted_gives max count = test_gives 15 _ (record { given = λ l s ks l' t e. (let z = repeat_long count _ [] l s ks l' t e in omega arith) })

-- by how many keys it gives: the count, and six parts each
abbrev of_keys : List EncryptedDataKeyAt → ℕ
of_keys ks = 1 + 6 * length ks

keys_few : (max : Max) → Few of_keys 393211 (read_encrypted_data_keys_section max)
unfolding read_encrypted_data_keys_section
keys_few max =
    bind_few of_keys 393211 uint16_steady uint16_wants (parts_few uint16_parts) (λ count. parts_few (test_parts 38 _ (counted_parts max count)))
    (λ count. test_gives 38 _ (record { given = λ l s ks l' t e. (let z = (counted_gives max count).given l s ks l' t e in omega arith) })) (omega arith) (λ count g. omega arith)

pub keys_into_few : (max : Max) (room : ℕ) → Few of_keys 393211 (read_encrypted_data_keys_section_into max room)
unfolding read_encrypted_data_keys_section_into
keys_into_few max room =
    bind_few of_keys 393211 (keys_steady max) (keys_wants max) (keys_few max) (λ ks. parts_few (test_parts 23 _ (return_parts ks))) (λ ks. test_gives 23 _ (return_gives ks (omega arith))) (omega arith)
    (λ ks g. omega arith)

-- in either version
by_version : (P : Bool → Type 0) → P true → P false → (v1 : Bool) → P v1
by_version P p q true = p
by_version P p q false = q

-- a body's opening: the version, the type in version 1, the suite, the message ID
suite_parts : (version : ℕ) → Parts 1 (read_esdk_suite_id version)
unfolding read_esdk_suite_id
suite_parts version = more_parts 1 (bind_parts uint16_steady uint16_parts (λ x. test_parts 6 _ (test_parts 7 _ (return_parts x)))) (omega arith)

lead_of_parts : (v1 : Bool) → Parts (cond v1 2 1) (read_lead_of v1)
unfolding read_lead_of
lead_of_parts true = more_parts 2 (bind_parts uint8_steady uint8_parts (λ t. test_parts 5 _ (bind_parts (suite_steady 1) (suite_parts 1) (λ x. return_parts _)))) (omega arith)
lead_of_parts false = more_parts 1 (bind_parts (suite_steady 2) (suite_parts 2) (λ x. return_parts _)) (omega arith)

lead_of_gives : (v1 : Bool) → Gives (λ l. 1 + cond v1 2 1 ≤ by l.version 3 2) (read_lead_of v1)
unfolding read_lead_of
lead_of_gives true = bind_gives _ (λ t. test_gives 5 _ (bind_gives _ (λ x. return_gives _ (omega arith))))
lead_of_gives false = bind_gives _ (λ x. return_gives _ (omega arith))

version_parts : Parts 1 read_message_format_version
unfolding read_message_format_version
version_parts = more_parts 1 (bind_parts uint8_steady uint8_parts (λ v. test_parts 3 _ (return_parts v))) (omega arith)

lead_few : (which : Which) → Few (λ l. by l.version 3 2) 3 (read_lead which)
unfolding read_lead
lead_few which =
    bind_few (λ l. by l.version 3 2) 3 version_steady version_wants (parts_few version_parts) (λ v. parts_few (test_parts 4 _ (lead_of_parts (eqb v 1)))) (λ v. test_gives 4 _ (lead_of_gives (eqb v 1)))
    (omega arith) (λ v g. by_version (λ v1. 1 + cond v1 2 1 ≤ 3) (omega arith) (omega arith) (eqb v 1))

opening_few : (which : Which) (policy : Policy) → Few (λ o. by o.version 4 3) 4 (read_opening which policy)
unfolding read_opening after_lead
opening_few which policy =
    bind_few (λ o. by o.version 4 3) 4 (lead_steady which) (lead_wants which) (lead_few which)
    (λ l. parts_few (test_parts 39 _ (more_parts 1 (bind_parts (read_steady _) (read_parts _) (λ id. return_parts _)) (omega arith))))
    (λ l. test_gives 39 _ (bind_gives _ (λ id. return_gives _ (by_version (λ v1. cond v1 3 2 + 1 ≤ cond v1 4 3) (omega arith) (omega arith) (eqb l.version 1))))) (omega arith) (λ l g. omega arith)

-- and its closing: the content type, the reserved bytes and the IV length in version 1, the frame length, the suite data in version 2
content_parts : Parts 1 read_content_type
unfolding read_content_type
content_parts = more_parts 1 (bind_parts uint8_steady uint8_parts (λ c. test_parts 17 _ (return_parts c))) (omega arith)

closing_of_parts : (v1 : Bool) (content : ℕ) → Parts (cond v1 3 2) (read_closing_of v1 content)
unfolding read_closing_of
closing_of_parts true content =
    more_parts 3 (bind_parts uint32_steady uint32_parts (λ r. test_parts 18 _ (bind_parts uint8_steady uint8_parts (λ iv. test_parts 19 _ (bind_parts uint32_steady uint32_parts (λ f. return_parts _))))))
    (omega arith)
closing_of_parts false content = more_parts 2 (bind_parts uint32_steady uint32_parts (λ f. bind_parts (read_steady _) (read_parts _) (λ d. return_parts _))) (omega arith)

closing_parts : (v1 : Bool) → Parts (1 + cond v1 3 2) (read_closing v1)
unfolding read_closing
closing_parts v1 = bind_parts content_steady content_parts (λ c. closing_of_parts v1 c)

mark_parts : {n : ℕ} {r : Reader (List PairAt)} → Parts n r → Parts n (with_mark r)
unfolding with_mark
mark_parts {n} {r} h =
    record { places = h.places; covers = λ l e s. asks_on (λ p. Memᴰ p (h.places (l ++ e) s)) (mark s) (λ ps l t. tt) (r l s) (h.covers l e s); few = h.few }

after_keys_parts : (q : Request) (o : Opening) (x : ContextAt) (ks : List EncryptedDataKeyAt) → Parts (1 + by o.version 3 2) (after_keys q o x ks)
unfolding after_keys
after_keys_parts q o x ks =
    more_parts (1 + by o.version 3 2) (bind_parts (closing_steady _) (closing_parts (eqb o.version 1)) (λ c. test_parts 20 _ (test_parts 22 _ (test_parts 23 _ (return_parts _))))) (omega arith)

-- by version, and by how many keys it has
abbrev of_body : ℕ → ℕ → HeaderBody → ℕ
of_body i j b = by b.version i j + 6 * length b.keys

-- a body is of the version that its opening has
after_opening_gives : (q : Request) (o : Opening) → Gives (λ b. by o.version 4 3 + of_body 7 6 b ≤ of_body 11 9 b) (after_opening q o)
unfolding after_opening after_context after_keys
after_opening_gives q o =
    bind_gives _ (λ x. bind_gives _ (λ ks. bind_gives _ (λ c. test_gives 20 _ (test_gives 22 _ (test_gives 23 _
    (return_gives _ (by_version (λ v1. cond v1 4 3 + (cond v1 7 6 + 6 * length ks) ≤ cond v1 11 9 + 6 * length ks) (omega arith) (omega arith) (eqb o.version 1))))))))

after_context_few : (q : Request) (o : Opening) (x : ContextAt) → Few (of_body 5 4) 393215 (after_context q o x)
unfolding after_context after_keys
after_context_few q o x =
    bind_few (of_body 5 4) 393215 (keys_steady q.max) (keys_wants q.max) (keys_few q.max) (λ ks. parts_few (after_keys_parts q o x ks))
    (λ ks. bind_gives _ (λ c. test_gives 20 _ (test_gives 22 _ (test_gives 23 _
    (return_gives _ (by_version (λ v1. 1 + 6 * length ks + (1 + cond v1 3 2) ≤ cond v1 5 4 + 6 * length ks) (omega arith) (omega arith) (eqb o.version 1))))))) (omega arith)
    (λ ks g. by_version (λ v1. 393211 + (1 + cond v1 3 2) ≤ 393215) (omega arith) (omega arith) (eqb o.version 1))

after_opening_few : (q : Request) (o : Opening) → Few (of_body 7 6) 393217 (after_opening q o)
unfolding after_opening
after_opening_few q o =
    bind_few (of_body 7 6) 393217 (mark_steady (section_steady q.mode)) (marked_wants (section_wants q.mode)) (parts_few (mark_parts (section_parts q.mode))) (after_context_few q o)
    (λ x. record { given = λ l s b l' t e. by_version (λ v1. 2 + (cond v1 5 4 + 6 * length b.keys) ≤ cond v1 7 6 + 6 * length b.keys) (omega arith) (omega arith) (eqb b.version 1) })
    (omega arith) (λ x g. omega arith)

pub body_few : (q : Request) → Few (of_body 11 9) 393221 (read_body q)
unfolding read_body
body_few q =
    bind_few (of_body 11 9) 393221 (opening_steady q.which q.policy) (opening_wants q.which q.policy) (opening_few q.which q.policy) (after_opening_few q)
    (λ o. after_opening_gives q o) (omega arith) (λ o g. omega arith)
