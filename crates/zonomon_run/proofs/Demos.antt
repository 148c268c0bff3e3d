-- What a demonstration puts.
use Rattle.std.proofs.Common.{◌≡◌, ℕ, ◌+◌, ◌≤◌, true, List, [], ◌∷◌, ◌++◌, length, None, Ok, codes, refl, sym, ap, ◌∙◌, arith, subst}
use Rattle.std.specs.List.{All}
use Rattle.std.proofs.lemmas.List.{length-map}
use Rattle.std.proofs.lemmas.List.Elements.{All-cons, All-append}
use Rattle.telem_csv.specs.Rows.{Rows}
use Rattle.set_rules.proofs.ImageSets.{length-tabulate}
use Rattle.plant_model.specs.Plant.{Plant}
use Rattle.model_file.specs.ModelFile.{models_of}
use Rattle.model_bank.specs.Bank.{plants_in, names_in}
use Rattle.sim_gen.specs.Models.{models_with, plant_with}
use Rattle.sim_gen.specs.Process.{begun, process_at, moment_of, moments}
use Rattle.sim_gen.specs.Telemetry.{samples_of, sample_of, trajectory}
use Rattle.sim_gen.specs.Said.{said_by, just}
use Rattle.sim_gen.proofs.Follows.{obeys}
use Rattle.report_text.specs.Line.{Line, title, model}
use Rattle.report_rules.specs.Claims.{plant_at}
use Rattle.report_rules.specs.Lines.{head_lines, last_lines}
use Rattle.report_rules.specs.Report.{samples_lines}
use Rattle.observer_step.specs.SetsAnswers.{sets_observer}
use Rattle.report_summary.specs.declared.summary.Summary.{Summary}
use Rattle.report_summary.specs.Told.{AreTold}
use Rattle.report_summary.specs.Sums.{Sums, excluded_in}
use Rattle.report_summary.specs.Text.{summary_text, summary_of}
use Rattle.input_files.specs.Files.{files_of, with_models, with_telemetry}
use Rattle.zonomon_run.specs.Words.{asked_by, demonstrates}
use Rattle.zonomon_run.specs.Runs.{OnDemo}
use Rattle.zonomon_run.specs.Demo.{demo_files, IsDemoReport}
use Rattle.zonomon_run.proofs.Demonstration.{IsTimely, all-none, all-told, samples-timely, last-timely, stays}
use Rattle.zonomon_run.proofs.Runs.{put-accepted, true-exclusions}

-- what the words give
pub on-demo : (words : List (List ℕ)) (P : ℕ → ℕ → Type 0) (seed samples : ℕ) → demonstrates seed samples ≡ asked_by words → P seed samples → OnDemo words P
on-demo words P seed samples is claim seed' samples' e =
    let same : seed ≡ seed' = cc in
    let same' : samples ≡ samples' = cc in
    subst (λ x. P x samples') same (subst (λ x. P seed x) same' claim)

-- what the made files say
pub made-files : (seed samples : ℕ) (m t : List ℕ) → models_of m ≡ Ok (models_with (begun seed).coupling (begun seed).gain) → said_by t ≡ just (samples_of seed samples)
    → files_of m t ≡ demo_files seed samples
unfolding files_of
made-files seed samples m t models rows = ap (λ r. with_models r t) models ∙ ap (with_telemetry (models_with (begun seed).coupling (begun seed).gain)) rows

pub samples-count : (seed samples : ℕ) → length (samples_of seed samples) ≡ samples
samples-count seed samples = length-map (moments seed samples) sample_of ∙ length-tabulate samples (λ k. moment_of (process_at seed k))

few-models : (coupling gain : ℕ) → length (plants_in (models_with coupling gain)) ≤ 16
few-models coupling gain = omega arith

few-outputs : (coupling gain : ℕ) → All (λ (p : Plant). p.outputs ≤ 6) (plants_in (models_with coupling gain))
few-outputs coupling gain =
    All-cons (λ (p : Plant). p.outputs ≤ 6) (plant_with coupling gain) (plant_with coupling (gain + 1) ∷ []) (omega arith)
    (All-cons (λ (p : Plant). p.outputs ≤ 6) (plant_with coupling (gain + 1)) [] (omega arith) (λ k d h. absurd (omega arith)))

module _ (seed samples : ℕ) (some : 1 ≤ samples) (few : samples ≤ 10_000) (lines : List Line) (is : IsDemoReport seed samples lines) where
  -- each line is told, and speaks of one of the samples
  timely : All (IsTimely samples) lines
  timely =
      let ms = models_with (begun seed).coupling (begun seed).gain in
      let rows : Rows = record { samples = samples_of seed samples; refusal = None } in
      let put = put-accepted ms rows lines is in
      let count = samples-count seed samples in
      let ps = plants_in ms in
      let head = head_lines (names_in ms) in
      let begun-lines = samples_lines sets_observer ps rows.samples put.choice (length rows.samples) in
      let nothing = all-none (IsTimely samples) in
      let names : All (IsTimely samples) head =
      All-cons (IsTimely samples) title (model 0 (codes "true") ∷ model 1 (codes "other") ∷ []) tt (All-cons (IsTimely samples) (model 0 (codes "true")) (model 1 (codes "other") ∷ []) refl (All-cons (IsTimely samples) (model 1 (codes "other")) [] refl nothing)) in
      subst (All (IsTimely samples)) (sym put.is)
      (All-append (IsTimely samples) (head ++ begun-lines) (last_lines (length rows.samples) true)
      (All-append (IsTimely samples) head begun-lines names
      (samples-timely samples ps rows.samples put.choice (few-models (begun seed).coupling (begun seed).gain) (few-outputs (begun seed).coupling (begun seed).gain) (λ k h. put.allowed k (omega (arith, count))) (length rows.samples) (omega (arith, count))))
      (last-timely samples (length rows.samples) true))

  pub told : AreTold lines
  told = all-told samples (omega arith) lines timely

  -- the model that made the telemetry is not excluded
  pub true-stays : excluded_in 0 0 lines ≡ None
  true-stays =
      stays samples (plant_at (plants_in (models_with (begun seed).coupling (begun seed).gain))) (samples_of seed samples) (λ k h. (trajectory seed samples, obeys seed samples k h))
      0 (omega arith) lines timely (true-exclusions (demo_files seed samples) lines is)

-- ---- the four lines

-- the text of a summary is that of the report
pub summed : (seed samples : ℕ) (lines : List Line) (s : Summary) → Sums lines s → summary_text seed samples s.first s.second s.undecided ≡ summary_of seed samples lines
summed seed samples lines s h = λ i. summary_text seed samples (h.first i) (h.second i) (h.undecided i)
