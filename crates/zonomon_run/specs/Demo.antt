-- What the words `demo SEED SAMPLES` do.
use Rattle.std.specs.Prelude.{◌≡◌, ℕ, List, None}
use Rattle.outside_io.specs.Causes.{Rose}
use Rattle.outside_io.specs.Sink.{SinkState, Gains, GainsFront}
use Rattle.report_text.specs.Line.{Line}
use Rattle.report_summary.specs.Sums.{excluded_in}
use Rattle.report_summary.specs.Text.{summary_of}
use Rattle.sim_gen.specs.Models.{models_with}
use Rattle.sim_gen.specs.Process.{begun}
use Rattle.sim_gen.specs.Telemetry.{samples_of}
use Rattle.input_files.specs.Files.{Files, monitored}
use Rattle.monitor_run.specs.Reports.{IsReportOf}
use Rattle.zonomon_run.specs.Runs.{IsPutStatus}

-- what the files of a demonstration say: its two models, and so many samples of the seed
abbrev pub demo_files : (seed samples : ℕ) → Files
demo_files seed samples =
    monitored (models_with (begun seed).coupling (begun seed).gain) (record { samples = samples_of seed samples; refusal = None })

-- a whole report that a run may put for these files
abbrev pub IsDemoReport : (seed samples : ℕ) → List Line → Type 0
IsDemoReport seed samples lines = IsReportOf (demo_files seed samples) lines

-- the output gained the four lines of such a report
abbrev pub GainsSummary : (seed samples : ℕ) → SinkState → SinkState → Type 0
GainsSummary seed samples before after = (lines : List Line) × IsDemoReport seed samples lines × Gains (summary_of seed samples lines) before after

-- it gained a front of them
abbrev pub GainsSummaryFront : (seed samples : ℕ) → SinkState → SinkState → Type 0
GainsSummaryFront seed samples before after =
    (lines : List Line) × IsDemoReport seed samples lines × GainsFront (summary_of seed samples lines) before after

-- what the words do. Status 6 is want of memory
pub record Demonstrates (seed samples : ℕ) (before : SinkState) (result : ℕ) (after : SinkState) : Type 0 where
  pub status : IsPutStatus result
  pub summary : result ≡ 0 → GainsSummary seed samples before after
  pub front : GainsSummaryFront seed samples before after
  pub write : result ≡ 5 → Rose before.faults after.faults

-- no report of the demonstration excludes the model that made its telemetry
abbrev pub TrueStays : (seed samples : ℕ) → Type 0
TrueStays seed samples = (lines : List Line) → IsDemoReport seed samples lines → excluded_in 0 0 lines ≡ None
