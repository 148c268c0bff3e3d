use Rattle.std.proofs.Common.{◌≡◌, ◌++◌, codes, ap, ◌∙◌, subst}
use Rattle.outside_io.specs.Sure.{content_of}
use Rattle.model_file.specs.ModelFile.{models_of}
use Rattle.sim_gen.specs.Said.{said_by}
use Rattle.report_text.specs.Line.{lines_text}
use Rattle.monitor_run.specs.Reports.{IsReportOf}
use Rattle.zonomon_run.proofs.Demos.{made-files}
use Rattle.zonomon_run.proofs.demo.report_of.Goals as goal

other-name : codes "model" ≡ codes "telemetry" → ⊥
other-name e = cc

pub returns-in-Ok : goal.returns-in-Ok
returns-in-Ok c =
    let seed = c.args.demo.seed in
    let samples = c.args.demo.samples in
    let shelf = c.add-2.new.self in
    let model = c.in_ok-add-2.ensures.others (codes "model") other-name ∙ c.in_ok-add.ensures.added ∙ c.model.ensures in
    let telemetry = c.in_ok-add-2.ensures.added ∙ c.telemetry.ensures in
    let files = made-files seed samples (content_of shelf (codes "model")) (content_of shelf (codes "telemetry"))
    (ap models_of model ∙ c.in_ok-made.ensures.model) (ap said_by telemetry ∙ c.in_ok-made.ensures.reads) in
    let put = c.in-Ok.ensures.puts in
    (put.0, subst (λ f. IsReportOf f put.0) files put.1, put.2 ∙ ap (λ bytes. bytes ++ lines_text put.0) c.of-report.ensures.empty)
