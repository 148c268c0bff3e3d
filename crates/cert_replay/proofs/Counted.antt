-- The counts of the models of a file.
use Rattle.std.proofs.Common.{◌≡◌, ℕ, ◌+◌, ◌<◌, ◌≤◌, true, is_none, replicate, refl, append-nil, Err, List, [], ◌∷◌, ◌++◌, length, map, take, get_or, sym, ap, ◌∙◌, arith, subst}
use Rattle.std.specs.List.{All}
use Rattle.std.proofs.Math.ListN.{get_or-map}
use Rattle.std.proofs.lemmas.List.{length-map, take_more, take_all, get_or_default, map-append, length-take-le}
use Rattle.plant_model.specs.Plant.{Plant}
use Rattle.model_file.specs.Bank.{Models, Named, IsModels, no_model}
use Rattle.outside_io.specs.Shelf.{ShelfState}
use Rattle.telem_csv.specs.Rows.{Rows}
use Rattle.model_bank.specs.Bank.{BankStands, plants_in, names_in}
use Rattle.report_rules.specs.Lines.{head_lines}
use Rattle.report_rules.specs.Report.{lives_before, samples_lines}
use Rattle.report_rules.proofs.Replays.{replayed-begin}
use Rattle.cert_replay.specs.Checked.{AreModels, Checked}
use Rattle.cert_replay.specs.Ends.{HeadStands, DepartsInHead, SaysOfChecked}
use Rattle.cert_replay.specs.Faults.{IsSampleFault}
use Rattle.cert_replay.specs.Offers.{AreCountsOf}
use Rattle.cert_replay.specs.declared.counts.LineCounts.{LineCounts}
use Rattle.cert_replay.specs.declared.fault.CheckFault.{CheckFault}
use Rattle.cert_replay.specs.declared.fault.CheckFault.TheVariants.{Model, Telemetry, Read, Report, Memory}
use Rattle.cert_replay.specs.declared.replay.Replay.{Replay}

-- the numbers of states of the first models
abbrev pub first_states : Models → ℕ → List ℕ
first_states m i = map (λ (p : Plant). p.states) (take i (plants_in m))

pub length-plants : (m : Models) → length (plants_in m) ≡ length m.models
length-plants m = length-map m.models (λ (n : Named). n.plant)

pub length-first : (m : Models) (i : ℕ) → i ≤ length m.models → length (first_states m i) ≡ i
length-first m i h = length-map (take i (plants_in m)) (λ (p : Plant). p.states) ∙ length-take-le i (plants_in m) (omega (arith, h, length-plants m))

pub first-more : (m : Models) (i n : ℕ) → i < length m.models → n ≡ (get_or m.models i no_model).plant.states → first_states m (i + 1) ≡ first_states m i ++ n ∷ []
first-more m i n h is =
    let more = take_more (plants_in m) i no_model.plant (omega (arith, h, length-plants m)) in
    ap (map (λ (p : Plant). p.states)) more ∙ map-append (λ (p : Plant). p.states) (take i (plants_in m)) (get_or (plants_in m) i no_model.plant ∷ [])
    ∙ ap (λ (p : Plant). first_states m i ++ p.states ∷ []) (get_or-map (λ (n : Named). n.plant) m.models i no_model) ∙ ap (λ k. first_states m i ++ k ∷ []) (sym is)

pub first-all : (m : Models) → first_states m (length m.models) ≡ map (λ (p : Plant). p.states) (plants_in m)
first-all m = ap (map (λ (p : Plant). p.states)) (take_all (length m.models) (plants_in m) (omega (arith, length-plants m)))

pub outputs-are : (m : Models) (n : ℕ) → IsModels m → n ≡ length m.outputs → All (λ (p : Plant). p.outputs ≡ n) (plants_in m)
outputs-are m n is e k d l =
    let within : k < length m.models = omega (arith, l, length-plants m) in
    subst (λ (p : Plant). p.outputs ≡ n) (sym (get_or-map (λ (n : Named). n.plant) m.models k no_model) ∙ get_or_default (plants_in m) k no_model.plant d l)
    ((is.counts k no_model within).1 ∙ sym e)

-- what holds of all counts holds of the plants
pub of-counts : (P : ℕ → Type 0) (c : LineCounts) (ps : List Plant) → AreCountsOf c ps → All P c.states.items → All (λ (p : Plant). P p.states) ps
of-counts P c ps are all k d l =
    subst P (ap (λ xs. get_or xs k d.states) (sym are.states_are) ∙ get_or-map (λ (p : Plant). p.states) ps k d)
    (all k d.states (omega (arith, l, length-map ps (λ (p : Plant). p.states), ap length are.states_are)))

pub are-models : (m : Models) (c : LineCounts) → IsModels m → AreCountsOf c (plants_in m) → AreModels (names_in m) (plants_in m) c
are-models m c is are = record {
  few = record {
    few_models = omega (arith, length-plants m, is.few_models);
    few_outputs = λ k d l. let same = outputs-are m (length m.outputs) is refl k d l in omega (arith, same, is.few_outputs);
    some_state = of-counts (λ n. 1 ≤ n) c (plants_in m) are c.some_state;
  };
  few_states = of-counts (λ n. n ≤ 8) c (plants_in m) are c.few_states;
  counts_are = are;
}

-- ---- before the first sample

pub begun-checked : (names : List (List ℕ)) (ps : List Plant) (bytes : List ℕ) (r : Replay) (s : ShelfState) → HeadStands names bytes r.window s → BankStands ps [] (replicate (length ps) true) r.bank
    → r.last.possible.items ≡ replicate (length ps) true → Checked names ps [] bytes r s
unfolding lives_before samples_lines
begun-checked names ps bytes r s head stands possible = record {
  choice = λ k. [];
  unread = head.unread;
  left = head.left;
  replayed = replayed-begin names ps bytes head.unread head.are (λ k. []);
  stands = stands;
  possible_are = possible;
  lines = head.lines ∙ ap length (sym (append-nil (head_lines names)));
}

-- a fault in the head
pub head-fault : (names : List (List ℕ)) (ps : List Plant) (bytes : List ℕ) (fault : CheckFault) → IsSampleFault fault → DepartsInHead names bytes fault → (rows : Rows) → SaysOfChecked names ps (Err fault) rows bytes
head-fault names ps bytes (Model fault) is departs rows = tt
head-fault names ps bytes (Telemetry fault) is departs rows = absurd is
head-fault names ps bytes (Read slot) is departs rows = tt
head-fault names ps bytes (Report line) is departs rows = departs line refl ps rows.samples (is_none rows.refusal)
head-fault names ps bytes Memory is departs rows = tt

pub memory-checked : (names : List (List ℕ)) (ps : List Plant) (bytes : List ℕ) (rows : Rows) → SaysOfChecked names ps (Err Memory) rows bytes
memory-checked names ps bytes rows = tt
