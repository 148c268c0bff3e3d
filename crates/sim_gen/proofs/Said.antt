-- The reader of telemetries reads the telemetry of a seed as its samples.
use Rattle.std.proofs.Common.{◌≡◌, ℕ, ◌+◌, ◌-◌, ◌*◌, ◌≤◌, true, false, All, List, [], ◌∷◌, ◌++◌, length, get_or, map, codes, refl, sym, ◌∙◌, ap, arith, Some, Ok}
use Rattle.std.specs.Prelude.{nat_lt}
use Rattle.std.specs.List.{flat_map, range_with_len}
use Rattle.std.proofs.lemmas.Bool.Decides.{nat_tests}
use Rattle.std.proofs.lemmas.Int.{ints}
use Rattle.std.proofs.lemmas.List.Elements.{All-map}
use Rattle.std.proofs.lemmas.List.FromFn.{length-map-range_with_len}
use Rattle.dec_text.specs.Steps.{◌>>=◌}
use Rattle.telem_csv.specs.Lines.{raw_lines, line_text, fields_in}
use Rattle.telem_csv.specs.Rows.{rows_from}
use Rattle.telem_csv.specs.Telemetry.{telemetry, has_header, header_of, then_header, from_line}
use Rattle.telem_csv.proofs.Ends.{not_marked}
use Rattle.telem_csv.proofs.Plain.{fields_plain}
use Rattle.sim_gen.specs.Process.{process_at, moment_of, moments}
use Rattle.sim_gen.specs.Telemetry.{sample_of, samples_of, line_of, text_of, telemetry_text}
use Rattle.sim_gen.specs.Said.{said_by, just}
use Rattle.sim_gen.specs.declared.process.Moment.{Moment}
use Rattle.sim_gen.proofs.Keeps.{process_at-is, input-small, error-small}
use Rattle.sim_gen.proofs.Rows.{columns, IsPrintable, rows-read}

abbrev inputs : List (List ℕ)
inputs = codes "u" ∷ []

abbrev outputs : List (List ℕ)
outputs = codes "y" ∷ []

-- the header without its line feed
abbrev header_bytes : List ℕ
header_bytes = codes "u,y"

header-fields : fields_in header_bytes ≡ Some (inputs ++ outputs)
header-fields =
    sym (fields_plain header_bytes header_bytes (not_marked header_bytes (omega arith) refl) (record { short = omega arith; no_feed = refl; no_return = refl }) refl refl)

header-text : (room : ℕ) → 4 ≤ room → line_text room 1 (record { bytes = header_bytes; is_ended = true }) ≡ Ok header_bytes
header-text room fits =
    let in_room : nat_lt room 4 ≡ false = grind (arith, nat_tests) in
    rw (in_room, sym (not_marked header_bytes (omega arith) refl)) refl

header-read : (room : ℕ) → 4 ≤ room → (line_text room 1 (record { bytes = header_bytes; is_ended = true }) >>= header_of inputs outputs) ≡ Ok (Some columns)
header-read room fits = ap (λ t. t >>= header_of inputs outputs) (header-text room fits) ∙ rw header-fields refl

-- the text of samples is read as their rows
text-read : (ms : List Moment) → All IsPrintable ms → (room : ℕ) → 4 + 44 * length ms ≤ room → telemetry room inputs outputs (text_of ms) ≡ just (map sample_of ms)
unfolding telemetry
text-read ms h room fits =
    ap (λ a. then_header 1 a (λ head. rows_from head (room - 4) 2 (raw_lines (flat_map line_of ms))) (from_line inputs outputs (room - 4) 2 (raw_lines (flat_map line_of ms))))
    (header-read room (omega arith))
    ∙ ap has_header (rows-read ms h (room - 4) 2 (omega arith) (omega arith))

printable : (seed k : ℕ) → IsPrintable (moment_of (process_at seed k))
printable seed k = record {
  input = let small = input-small (process_at seed k).generator in omega arith;
  reading = let first = (process_at-is seed k).first_small in let error = error-small (process_at seed k).generator in omega (arith, ints);
}

pub said : (seed samples : ℕ) → samples ≤ 10_000 → said_by (telemetry_text seed samples) ≡ just (samples_of seed samples)
said seed samples few =
    let size = length-map-range_with_len (λ k. moment_of (process_at seed k)) 0 samples in
    text-read (moments seed samples)
    (All-map IsPrintable (λ k. moment_of (process_at seed k)) (range_with_len 0 samples) (λ k d l. printable seed (get_or (range_with_len 0 samples) k d)))
    1_073_741_824 (omega arith)
