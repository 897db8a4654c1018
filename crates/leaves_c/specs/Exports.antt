-- What crosses the boundary, of what the definitions answer. Assumes nothing.
use Rattle.std.specs.Prelude.{ℕ, ◌+◌, Bool, true, false, cond, ◌&&◌, List, leb, eqb, length, Option, Some, None, Result, Ok, Err}
use Rattle.format.specs.Read.{Answer}
use Rattle.format.specs.Serialize.{Part, same_bytes, write_short_length_seq}
use Rattle.format.specs.Utf8.{valid_utf8_seq}
use Rattle.format.specs.Lent.{bytes_at}
use Rattle.wire.specs.Codes.{number_of, span_of}
use Rattle.comparing.specs.Order.{compare_bytes}
use Rattle.wire.specs.Stored.{stored}
use Rattle.wire.specs.declared.refusals.Refusal.{Refusal}
use Rattle.wire.specs.declared.SuccessfulRead.{SuccessfulRead}
use Rattle.wire.specs.declared.Span.{Span}
use Rattle.std.specs.declared.cmp.Ordering.{Ordering}
use Rattle.std.specs.declared.cmp.Ordering.TheVariants.{Less, Equal, Greater}
use Rattle.leaves_c.specs.declared.LeafNumber.{LeafNumber}
use Rattle.leaves_c.specs.declared.LeafPart.{LeafPart}

-- the end that a host asks for: a number that is 0 where there is none, and its place
abbrev pub end_asked : ℕ → ℕ → Option ℕ
end_asked hasEnd place = cond (eqb hasEnd 0) None (Some place)

abbrev pub number_fields : Result (SuccessfulRead ℕ) Refusal → LeafNumber
number_fields (Ok r) = record { refusal = 0; position = 0; value = r.value; tail = r.tail }
number_fields (Err q) = record { refusal = q.number; position = q.position; value = 0; tail = 0 }

abbrev pub part_fields : Result Span Refusal → LeafPart
part_fields (Ok r) = record { refusal = 0; position = 0; start = r.start; len = r.len; tail = r.tail }
part_fields (Err q) = record { refusal = q.number; position = q.position; start = 0; len = 0; tail = 0 }

abbrev pub number_record : Answer ℕ → LeafNumber
number_record o = number_fields (number_of o)

abbrev pub part_record : Answer Part → LeafPart
part_record o = part_fields (span_of o)

abbrev pub truth : Bool → ℕ
truth true = 1
truth false = 0

abbrev pub order_number : Ordering → ℕ
order_number Less = 0
order_number Equal = 1
order_number Greater = 2

-- 3 where a part does not lie within the message
abbrev pub utf8_number : List ℕ → ℕ → ℕ → ℕ
utf8_number m start len = cond (leb (start + len) (length m)) (truth (valid_utf8_seq (bytes_at m start len))) 3

-- of two parts
abbrev pub both_within : List ℕ → ℕ → ℕ → ℕ → ℕ → ℕ → ℕ
both_within m a n b k x = cond (leb (a + n) (length m)) (cond (leb (b + k) (length m)) x 3) 3

abbrev pub same_number : List ℕ → ℕ → ℕ → ℕ → ℕ → ℕ
same_number m a n b k = both_within m a n b k (truth (same_bytes (bytes_at m a n) (bytes_at m b k)))

abbrev pub compare_number : List ℕ → ℕ → ℕ → ℕ → ℕ → ℕ
compare_number m a n b k = both_within m a n b k (order_number (compare_bytes (bytes_at m a n) (bytes_at m b k)))

-- whether an entry of a part of a text of that length can be written at a place of an output of that length
abbrev pub can_put : ℕ → ℕ → ℕ → ℕ → ℕ → Bool
can_put text start len out at = leb (start + len) text && (leb len 65535 && leb (at + (len + 2)) out)

abbrev pub put_number : List ℕ → ℕ → ℕ → List ℕ → ℕ → ℕ
put_number text start len out at = truth (can_put (length text) start len (length out) at)

abbrev pub put_output : List ℕ → ℕ → ℕ → List ℕ → ℕ → List ℕ
put_output text start len out at = cond (can_put (length text) start len (length out) at) (stored out at (write_short_length_seq (bytes_at text start len))) out
