-- A draft taken apart at its key section: what stands in front of it and behind it stays as it is whatever keys are written between them.
-- Assumes nothing.
use mathlib.Core.Path.{◌≡◌, refl, sym, ap, ◌∙◌}
use mathlib.Core.List.{List, ◌++◌, append_assoc}
use Prim.Native.Nat.{ℕ, ◌+◌, ◌-◌, ◌<◌}
use native.Mathlib.Omega.{arith}
use lib.Dec.{eqb}
use lib.ListN.{length, take, drop, length-append, length-drop}
use lib.Seq.{take_at}
use Rattle.format.specs.Read.{accepted, at}
use Rattle.format.specs.Serialize.{Bytes}
use Rattle.format.specs.Fields.{Form, EncryptedDataKey, EncryptedDataKeyAt, Fields, fields_of, with_keys}
use Rattle.format.specs.Context.{tolerant, read_aad_section, ContextAt, with_mark}
use Rattle.format.specs.Keys.{no_max, write_encrypted_data_keys_section, read_encrypted_data_keys_section}
use Rattle.format.specs.Policies.{no_policy}
use Rattle.format.specs.Body.{Which, Opening, read_opening, Closing, read_closing, whole, image}
use Rattle.format.specs.Lent.{bytes_at}
use Rattle.format.specs.Mended.{Apart}
use Rattle.format.proofs.Context.{Context, context_bytes}
use Rattle.format.proofs.Marked.{marked_at, marked_exact}
use Rattle.format.proofs.Keys.{keys_at, keys_exact}
use Rattle.format.proofs.Ends.{Top, top_bytes, top_at, v1_of, opening_exact, End, end_bytes, end_at, closing_exact}
use Rattle.format.proofs.Body.{Sent, joined, body_at, fields_at}
use Rattle.format.proofs.Messages.{at_took, rest_is}
use Rattle.format.proofs.Drafts.{in_front, around}

-- a part that was taken stands there
pub there : (m : List ℕ) (s : ℕ) (b l : List ℕ) (t : ℕ) → drop s m ≡ b ++ l → t ≡ s + length b → bytes_at m s (t - s) ≡ b
there m s b l t e h = ap (take (t - s)) e ∙ take_at b l (t - s) (omega arith)

-- the values of its four parts, one behind the other
module _ (m : List ℕ) (h : Top) (x : Context) (ks : List EncryptedDataKey) (e : End) (first second third tail : ℕ) (l₁ l₂ l₃ l₄ : List ℕ)
    (p₁ : drop 0 m ≡ top_bytes h ++ l₁) (q₁ : first ≡ 0 + length (top_bytes h))
    (p₂ : drop first m ≡ context_bytes x ++ l₂) (q₂ : second ≡ first + length (context_bytes x))
    (p₃ : drop second m ≡ write_encrypted_data_keys_section ks ++ l₃) (q₃ : third ≡ second + length (write_encrypted_data_keys_section ks))
    (p₄ : drop third m ≡ end_bytes (v1_of h) e ++ l₄) (q₄ : tail ≡ third + length (end_bytes (v1_of h) e)) where
  abbrev v : Sent
  v = joined h x ks e

  front : take second m ≡ in_front v
  front =
      let n = length-append (top_bytes h) (context_bytes x) in
      let all : m ≡ in_front v ++ l₂ = p₁ ∙ ap (λ l. top_bytes h ++ l) (rest_is m 0 l₁ (top_bytes h) first p₁ q₁ ∙ p₂) ∙ sym (append_assoc (top_bytes h) (context_bytes x) l₂) in
      ap (take second) all ∙ take_at (in_front v) l₂ second (omega arith)

  image_of : (form : Form) (f : Fields) → form ≡ v.form → f ≡ v.fields → (js : List EncryptedDataKey)
      → image form (with_keys js f) ≡ take second m ++ (write_encrypted_data_keys_section js ++ bytes_at m third (tail - third))
  image_of form f i j js = rw (i, j, front, there m third (end_bytes (v1_of h) e) l₄ tail p₄ q₄) (around v js)

  body_is : body_at 0 v ≡ whole (top_at 0 h) (marked_at first x) (keys_at second ks) (end_at (v1_of h) third e)
  body_is = rw (← q₁, ← q₂, ← q₃) refl

  glued : Apart m (body_at 0 v) second third tail
  glued =
      let own : (fields_of (body_at 0 v)).keys ≡ ks = ap (λ (f : Fields). f.keys) (fields_at 0 v) in
      record {
        image_with = image_of (body_at 0 v).form (fields_of (body_at 0 v)) refl (fields_at 0 v);
        section = rw own q₃;
        keys = rw own (there m second (write_encrypted_data_keys_section ks) l₃ third p₃ q₃);
        ended = omega arith;
        within = (let n = ap length p₄ in let j = length-append (end_bytes (v1_of h) e) l₄ in let k = length-drop third m in let z : 0 < length (end_bytes (v1_of h) e) = omega arith in omega arith);
      }

same_whole : (o o' : Opening) (x x' : ContextAt) (ks ks' : List EncryptedDataKeyAt) (c c' : Closing) → o ≡ o' → x ≡ x' → ks ≡ ks' → c ≡ c' → whole o x ks c ≡ whole o' x' ks' c'
same_whole o o' x x' ks ks' c c' e f g h = rw (e, f, g, h)

module _ (which : Which) (m : List ℕ) (hb : Bytes m) (o : Opening) (first : ℕ) (opened : at (read_opening which no_policy) m 0 ≡ accepted o first)
    (x : ContextAt) (second : ℕ) (paired : at (with_mark (read_aad_section tolerant)) m first ≡ accepted x second)
    (ks : List EncryptedDataKeyAt) (third : ℕ) (keyed : at (read_encrypted_data_keys_section no_max) m second ≡ accepted ks third)
    (c : Closing) (tail : ℕ) (closed : at (read_closing (eqb o.version 1)) m third ≡ accepted c tail) where
  pub apart : Apart m (whole o x ks c) second third tail
  apart =
      let (l₁, top) = at_took (opening_exact which no_policy) m 0 hb o first opened in
      let (l₂, context) = at_took (marked_exact tolerant) m first hb x second paired in
      let (l₃, section) = at_took (keys_exact no_max) m second hb ks third keyed in
      let h : Top = top.value in
      let v1 : eqb o.version 1 ≡ v1_of h = ap (λ (y : Opening). eqb y.version 1) top.placed in
      let (l₄, end) = at_took (closing_exact (v1_of h)) m third hb c tail (rw v1 at closed) in
      let whole_is : whole o x ks c ≡ body_at 0 (joined h context.value section.value end.value) =
      same_whole _ _ _ _ _ _ _ _ top.placed context.placed section.placed end.placed
      ∙ sym (body_is m h context.value section.value end.value first second third tail l₁ l₂ l₃ l₄ top.split top.tail context.split context.tail section.split section.tail end.split end.tail) in
      rw whole_is
      (glued m h context.value section.value end.value first second third tail l₁ l₂ l₃ l₄ top.split top.tail context.split context.tail section.split section.tail end.split end.tail)
