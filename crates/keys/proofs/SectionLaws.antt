-- The ways out of the functions that read keys, one law each. Assumes nothing.
use mathlib.Core.Path.{◌≡◌, sym, ap, ◌∙◌}
use mathlib.Core.Bool.{Bool, true, false, not}
use mathlib.Core.List.{List, []}
use Prim.Native.Nat.{ℕ, ◌+◌}
use native.Mathlib.Omega.{arith}
use borrow.Author.Tests.{eq-eqb, ne_eqb}
use Rattle.std.specs.Prelude.{Option, Result, Ok, Err}
use Rattle.format.specs.Read.{no_end, accepted, at, repeat}
use Rattle.format.specs.Serialize.{read_uint16, read_short_length_seq}
use Rattle.format.specs.Context.{read_text}
use Rattle.format.specs.Keys.{within, read_encrypted_data_key, read_encrypted_data_keys_of, read_encrypted_data_keys_section}
use Rattle.format.specs.Places.{number16}
use Rattle.steps.proofs.Tidy.{uint16_tidy, entry_tidy, text_tidy}
use Rattle.steps.proofs.Steps.{go, stop, pass, fail, gives}
use Rattle.steps.proofs.Numbers.{uint16_known}
use Rattle.wire.specs.Codes.{because, number_of, span_of}
use Rattle.wire.specs.declared.refusals.Refusal.{Refusal}
use Rattle.wire.specs.declared.SuccessfulRead.{SuccessfulRead}
use Rattle.wire.specs.declared.Span.{Span}
use Rattle.wire.proofs.Answers.{number_got, number_no, span_no}
use Rattle.wire.proofs.Stood.{Stood, entry_stood, text_stood}
use Rattle.request.specs.Codes.{max_of}
use Rattle.entries.specs.Codes.{next_of, counted}
use Rattle.entries.proofs.Answers.{next_got, next_no}
use Rattle.entries.proofs.Walk.{all_length}
use Rattle.keys.specs.Codes.{any_key}
use Rattle.keys.proofs.Known.{key_kind}

-- a key
module _ (m : List ℕ) (s : ℕ) (p : Result Span Refusal) (pIs : p ≡ span_of (at (read_text no_end 16) m s)) where
  abbrev KeyNot : Refusal → Type 0
  KeyNot q = ◌≡◌ {A = Result ℕ Refusal} (Err q) (next_of (at read_encrypted_data_key m s))

  pub key_no_provider : (q : Refusal) → p ≡ Err q → KeyNot q
  unfolding read_encrypted_data_key
  key_no_provider q b = rw (stop _ (text_tidy no_end 16) m s _ _ (span_no (at (read_text no_end 16) m s) p pIs q b))

  module _ (id : Span) (pb : p ≡ Ok id) (i : Result Span Refusal) (iIs : i ≡ span_of (at (read_short_length_seq no_end) m id.tail)) where
    ps : Stood (at (read_text no_end 16) m s) m (s + 2) (number16 m s) id
    ps = text_stood m s p id pb no_end 16 pIs

    pub key_no_info : (q : Refusal) → i ≡ Err q → KeyNot q
    unfolding read_encrypted_data_key
    key_no_info q b =
        rw (go _ (text_tidy no_end 16) m s _ id.tail ps.is, stop _ (entry_tidy no_end) m id.tail _ _ (span_no (at (read_short_length_seq no_end) m id.tail) i iIs q b))

    module _ (info : Span) (ib : i ≡ Ok info) (c : Result Span Refusal) (cIs : c ≡ span_of (at (read_short_length_seq no_end) m info.tail)) where
      is : Stood (at (read_short_length_seq no_end) m id.tail) m (id.tail + 2) (number16 m id.tail) info
      is = entry_stood m id.tail i info ib no_end iIs

      pub key_no_cipher : (q : Refusal) → c ≡ Err q → KeyNot q
      unfolding read_encrypted_data_key
      key_no_cipher q b =
          rw (
            go _ (text_tidy no_end 16) m s _ id.tail ps.is,
            go _ (entry_tidy no_end) m id.tail _ info.tail is.is,
            stop _ (entry_tidy no_end) m info.tail _ _ (span_no (at (read_short_length_seq no_end) m info.tail) c cIs q b),
          )

      pub key_whole : (cipher : Span) → c ≡ Ok cipher → ◌≡◌ {A = Result ℕ Refusal} (Ok cipher.tail) (next_of (at read_encrypted_data_key m s))
      unfolding read_encrypted_data_key
      key_whole cipher cb =
          let cs = entry_stood m info.tail c cipher cb no_end cIs in
          rw (go _ (text_tidy no_end 16) m s _ id.tail ps.is, go _ (entry_tidy no_end) m id.tail _ info.tail is.is, go _ (entry_tidy no_end) m info.tail _ cipher.tail cs.is, gives _ m cipher.tail)

-- a section at a place
module _ (max : Option ℕ) (m : List ℕ) (s : ℕ) (x : Result (SuccessfulRead ℕ) Refusal) (xIs : x ≡ number_of (at read_uint16 m s)) where
  abbrev KeysNot : Refusal → Type 0
  KeysNot q = ◌≡◌ {A = Result (SuccessfulRead ℕ) Refusal} (Err q) (counted (at (read_encrypted_data_keys_section (max_of max)) m s))

  pub keys_none : (q : Refusal) → x ≡ Err q → KeysNot q
  unfolding read_encrypted_data_keys_section
  keys_none q b = rw (stop _ uint16_tidy m s _ _ (number_no (at read_uint16 m s) x xIs q b))

  module _ (n : SuccessfulRead ℕ) (b : x ≡ Ok n) where
    c : at read_uint16 m s ≡ accepted n.value n.tail
    c = number_got (at read_uint16 m s) x xIs n b

    pub keys_38 : n.value ≡ 0 → (q : Refusal) → q ≡ because 38 0 → KeysNot q
    unfolding read_encrypted_data_keys_section
    keys_38 e q f = rw (f, go _ uint16_tidy m s n.value n.tail c, fail 38 _ _ m n.tail (ap not (eq-eqb _ _ e)))

    module _ (some : n.value ≡ 0 → ⊥) (d : Bool) (dIs : d ≡ within n.value (max_of max)) where
      tested : at (read_encrypted_data_keys_section (max_of max)) m s ≡ at (read_encrypted_data_keys_of (max_of max) n.value) m n.tail
      unfolding read_encrypted_data_keys_section
      tested = go _ uint16_tidy m s n.value n.tail c ∙ pass 38 _ _ m n.tail (ap not (ne_eqb _ _ some))

      pub keys_15 : d ≡ false → (q : Refusal) → q ≡ because 15 0 → KeysNot q
      unfolding read_encrypted_data_keys_of
      keys_15 e q f = rw (f, tested, fail 15 _ _ m n.tail (sym dIs ∙ e))

      module _ (dt : d ≡ true) (e : Result ℕ Refusal) (eIs : e ≡ next_of (at (repeat n.value any_key []) m n.tail)) where
        all : at (read_encrypted_data_keys_section (max_of max)) m s ≡ at (repeat n.value any_key []) m n.tail
        unfolding read_encrypted_data_keys_of
        all = tested ∙ pass 15 _ _ m n.tail (sym dIs ∙ dt)

        pub keys_stop : (q : Refusal) → e ≡ Err q → KeysNot q
        keys_stop q g = rw (all, next_no (at (repeat n.value any_key []) m n.tail) e eIs q g)

        pub keys_whole : (t : ℕ) → e ≡ Ok t
            → ◌≡◌ {A = Result (SuccessfulRead ℕ) Refusal} (Ok (record { value = n.value; tail = t })) (counted (at (read_encrypted_data_keys_section (max_of max)) m s))
        keys_whole t g =
            let w = next_got (at (repeat n.value any_key []) m n.tail) e eIs t g in
            let y = uint16_known m s n.value n.tail c in
            let long = all_length key_kind m n.value n.tail (omega arith) w.item t w.is in
            rw (all, w.is, long)
