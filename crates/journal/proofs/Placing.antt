-- The blocks of a journal have their numbers where they belong, and stand where they belong.
use Rattle.std.proofs.Common.{◌≡◌, ℕ, zero, suc, ◌+◌, ◌-◌, ◌*◌, ◌/◌, ◌%◌, ◌^◌, ◌<◌, List, [], ◌∷◌, ◌++◌, length, get_or, replicate, refl, ap, ◌∙◌, arith}
use Rattle.std.proofs.lemmas.List.{get_or-append_right, get_or_append_left}
use Rattle.little_endian.specs.Little.{le_number, le_bytes}
use Rattle.little_endian.proofs.Widths.{le-bytes}
use Rattle.device.specs.Medium.{Medium}
use Rattle.instruction.specs.declared.Instruction.{Instruction}
use Rattle.instruction.specs.Layout.{bytes_of}
use Rattle.journal.specs.declared.header.Header.{Header}
use Rattle.journal.specs.Blocks.{zeros, header_bytes, record_bytes, mark_bytes}
use Rattle.journal.specs.Journal.{WritesEntry}
use Rattle.journal.specs.Format.{header_for_kinds, Formats}
use Rattle.journal.specs.Places.{ZeroFrom, HeaderPlaces, RecordPlaces, MarkPlaces, FormatPlaces, EntryPlaces}

-- a read of zeros, and past their end
zeros-read : (n i : ℕ) → ◌≡◌ {A = ℕ} (get_or (replicate n 0) i 0) 0
zeros-read zero i = refl
zeros-read (suc n) zero = refl
zeros-read (suc n) (suc i) = zeros-read n i

-- zeros after the first n bytes
zero-from : (xs : List ℕ) (n w : ℕ) → length xs ≡ n → ZeroFrom n (xs ++ replicate w 0)
zero-from xs n w l i h = get_or-append_right xs (replicate w 0) n i 0 l h ∙ zeros-read w (i - n)

-- four bytes of a number have it
four-of : (n : ℕ) → n < 2 ^ 32
    → n % 256 + 2 ^ 8 * (n / 256 % 256) + 2 ^ 16 * (n / 256 / 256 % 256) + 2 ^ 24 * (n / 256 / 256 / 256 % 256) ≡ n
four-of n l = let e : le_number (le_bytes 4 n) ≡ n = le-bytes 4 n l in omega (arith, e)

pub mark-placed : (k : ℕ) → k < 2 ^ 32 → MarkPlaces k (mark_bytes k)
mark-placed k l =
    record {
      long = refl;
      entry = four-of k l;
      complement = omega (arith, four-of (4294967295 - k) (omega arith));
      rest = zero-from (le_bytes 4 k ++ le_bytes 4 (4294967295 - k)) 8 248 refl;
    }

pub record-placed : (k : ℕ) (x : Instruction) → k < 2 ^ 32 → RecordPlaces k x (record_bytes k x)
record-placed k x l =
    record {
      long = refl;
      entry = four-of k l;
      count = refl;
      instruction = λ i h.
          let same : 8 + i - 8 ≡ i = omega arith in
          get_or-append_right (le_bytes 4 k ++ (1 ∷ 0 ∷ 0 ∷ 0 ∷ [])) (bytes_of x ++ replicate 216 0) 8 (8 + i) 0 refl
          (omega arith)
          ∙ ap (λ j. get_or (bytes_of x ++ replicate 216 0) j 0) same
          ∙ get_or_append_left (bytes_of x) (replicate 216 0) 0 i (omega arith);
      rest = zero-from (le_bytes 4 k ++ (1 ∷ 0 ∷ 0 ∷ 0 ∷ bytes_of x)) 40 216 refl;
    }

pub header-placed : (h : Header) → h.pairs < 2 ^ 32 → HeaderPlaces h.register h.cash h.pairs (header_bytes h)
header-placed h l =
    record {
      long = refl;
      edition = refl;
      books = refl;
      register-kind = refl;
      cash-kind = refl;
      number = four-of h.pairs l;
      rest = zero-from (1 ∷ 2 ∷ h.register ∷ h.cash ∷ le_bytes 4 h.pairs) 8 248 refl;
    }

-- a format that was answered 0
pub format-placed : (register cash pairs : ℕ) (m m' : Medium) → pairs < 2 ^ 32 → pairs + 4 < m.calls_left
    → Formats (header_bytes (header_for_kinds register cash pairs)) pairs m m' → FormatPlaces register cash pairs m m'
format-placed register cash pairs m m' few calls f =
    record {
      head = (
        header_bytes (header_for_kinds register cash pairs),
        f.new_header (omega arith),
        header-placed
            (header_for_kinds register cash pairs) few,
      );
      even = λ j l h. (
        zeros,
        ap m'.holds (omega arith) ∙ f.no_mark (j - 1) (omega arith) (omega arith),
        refl,
        λ i n. zeros-read 256 i,
      );
      odd = λ j. f.holds (2 * j + 1) (λ e. omega arith, λ k l e. omega arith);
      beyond = λ b l. f.holds b (λ e. omega arith, λ k h e. omega arith);
    }

-- an entry that was written whole
pub entry-placed : (k : ℕ) (x : Instruction) (m m' : Medium) → k < 2 ^ 32 → 3 < m.calls_left
    → WritesEntry (record_bytes k x) (mark_bytes k) k m m' → EntryPlaces k x m m'
entry-placed k x m m' low calls e =
    record {
      record_block = (record_bytes k x, ap m'.holds (omega arith) ∙ e.new_record (omega arith), record-placed k x low);
      mark_block = (mark_bytes k, ap m'.holds (omega arith) ∙ e.new_mark (omega arith), mark-placed k low);
      others = λ b n p. e.holds b (λ q. n (omega arith)) (λ q. p (omega arith));
    }
