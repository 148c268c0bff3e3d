-- Which lines a run may put for what its two files say.
use Rattle.std.specs.Prelude.{◌≡◌, List, [], is_none}
use Rattle.model_file.specs.Bank.{Models}
use Rattle.telem_csv.specs.Rows.{Rows}
use Rattle.observer_step.specs.Answers.{as_run_chooses}
use Rattle.observer_step.specs.SetsAnswers.{sets_observer}
use Rattle.model_bank.specs.Bank.{plants_in, names_in}
use Rattle.report_text.specs.Line.{Line}
use Rattle.report_rules.specs.Report.{Watch, IsReport}
use Rattle.input_files.specs.Files.{Files, bad_model, bad_header, monitored}

-- the models over the rows of a telemetry: it was read to its end where no row is refused
abbrev pub watch_of : Models → Rows → Watch
watch_of ms rows = record { names = names_in ms; plants = plants_in ms; samples = rows.samples; is_whole = is_none rows.refusal }

-- a report of models over the rows of a telemetry, of which `run` may choose the certificates
abbrev pub IsReportOfRows : Models → Rows → List Line → Type 0
IsReportOfRows ms rows lines = IsReport as_run_chooses sets_observer (watch_of ms rows) lines

-- the lines that a run may put for files that say this: none where there are no rows
abbrev pub IsReportOf : Files → List Line → Type 0
IsReportOf (bad_model fault) lines = lines ≡ []
IsReportOf (bad_header fault) lines = lines ≡ []
IsReportOf (monitored ms rows) lines = IsReportOfRows ms rows lines
