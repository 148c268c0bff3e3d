-- Which lines are a report of some models over some samples, and what a text of such lines is.
use Rattle.std.specs.Prelude.{◌≡◌, ℕ, zero, suc, ◌-◌, ◌<◌, ◌≤◌, Bool, true, List, [], ◌∷◌, ◌++◌, length, replicate, Option}
use Rattle.farkas_check.specs.Certificate.{Certificate}
use Rattle.plant_model.specs.Plant.{Plant, Sample}
use Rattle.observer_step.specs.Answers.{Observer, Rule}
use Rattle.model_bank.specs.Answers.{sample_answer, live_after, certificates_at, all_allowed}
use Rattle.report_text.specs.Line.{Line, lines_text}
use Rattle.report_rules.specs.Lines.{head_lines, sample_lines, last_lines}

-- models by their names and plants, the samples of a telemetry, and whether it was read to its end or a row of it was refused
pub record Watch : Type 0 where
  pub names : List (List ℕ)
  pub plants : List Plant
  pub samples : List Sample
  pub is_whole : Bool

-- what is said of each model at each sample: a certificate that excludes it, or none
abbrev pub Choice : Type 0
Choice = ℕ → List (Option Certificate)

-- which of m models are live before sample k
unfoldable pub lives_before : Choice → ℕ → ℕ → List Bool
lives_before c m zero = replicate m true
lives_before c m (suc k) = live_after (lives_before c m k) (c k)

-- the lines of the first n samples
unfoldable pub samples_lines : Observer → List Plant → List Sample → Choice → ℕ → List Line
samples_lines o ps samples c zero = []
samples_lines o ps samples c (suc n) =
    samples_lines o ps samples c n ++ sample_lines (sample_answer o ps (lives_before c (length ps) n) (c n) samples n)

-- the lines from the title on; the last one stands exactly where the telemetry was read to its end
abbrev pub report : Observer → Watch → Choice → List Line
report o w c = head_lines w.names ++ samples_lines o w.plants w.samples c (length w.samples) ++ last_lines (length w.samples) w.is_whole

-- the rule allows what is said at each sample before n
abbrev pub AllowedBefore : Rule → Observer → Watch → Choice → ℕ → Type 0
AllowedBefore rule o w c n =
    (k : ℕ) → k < n → all_allowed rule o w.plants (lives_before c (length w.plants) k) (c k) w.samples k ≡ true

-- the certificates that are due, or of the first candidates
abbrev pub due_choice : Observer → List Plant → List Sample → Choice
due_choice o ps samples k = certificates_at o ps samples k

-- ---- under a rule

-- the lines are a report with what the rule allows
pub record IsReport (rule : Rule) (o : Observer) (w : Watch) (lines : List Line) : Type 0 where
  pub choice : Choice
  pub allowed : AllowedBefore rule o w choice (length w.samples)
  pub is : lines ≡ report o w choice

-- the lines begin a report
abbrev pub IsFront : Rule → Observer → Watch → List Line → Type 0
IsFront rule o w lines = (more : List Line) × IsReport rule o w (lines ++ more)

-- the line may follow these
abbrev pub Follows : Rule → Observer → Watch → List Line → Line → Type 0
Follows rule o w lines line = IsFront rule o w (lines ++ line ∷ [])

-- ---- texts

-- the bytes are a report, each line with its line feed and nothing behind the last
abbrev pub IsReportText : Rule → Observer → Watch → List ℕ → Type 0
IsReportText rule o w bytes = (lines : List Line) × IsReport rule o w lines × (bytes ≡ lines_text lines)

-- the bytes begin with n lines, of which each follows those before it
pub record BeginsWith (rule : Rule) (o : Observer) (w : Watch) (n : ℕ) (bytes : List ℕ) : Type 0 where
  pub lines : List Line
  pub rest : List ℕ
  pub front : IsFront rule o w lines
  pub as_many : length lines ≡ n
  pub is : bytes ≡ lines_text lines ++ rest

-- line n, from 1, is the first that does not follow those before it; one that is missing at the end is such a line
pub record IsFirstBad (rule : Rule) (o : Observer) (w : Watch) (n : ℕ) (bytes : List ℕ) : Type 0 where
  pub some : 1 ≤ n
  pub before : BeginsWith rule o w (n - 1) bytes
  pub bad : ¬ BeginsWith rule o w n bytes

-- the bytes begin with all lines of a report; where a row was refused, these end with the verdict of the sample before it
abbrev pub Covers : Rule → Observer → Watch → List ℕ → Type 0
Covers rule o w bytes = (lines : List Line) × IsReport rule o w lines × (rest : List ℕ) × (bytes ≡ lines_text lines ++ rest)
