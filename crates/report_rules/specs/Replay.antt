-- What is known of the text of a report in the middle of its check.
use Rattle.std.specs.Prelude.{◌≡◌, ◌≢◌, ◌⊎◌, ℕ, ◌+◌, ◌<◌, ◌≤◌, ◌==◌, nat_le, Bool, true, false, not, ◌&&◌, if◌then◌else◌, List, [], ◌∷◌, ◌++◌, length, drop, flat_map, Option, Some, None, is_some}
use Rattle.std.specs.List.{All, list_any, list_all}
use Rattle.farkas_check.specs.Certificate.{Certificate}
use Rattle.plant_model.specs.Plant.{Plant, Sample}
use Rattle.observer_step.specs.Answers.{any_justified}
use Rattle.observer_step.specs.SetsAnswers.{sets_observer}
use Rattle.report_text.specs.Line.{Line, exclude, lines_text}
use Rattle.report_text.specs.Laws.{is_feed}
use Rattle.report_text.specs.Ranges.{IsLine}
use Rattle.report_rules.specs.Lines.{head_lines}
use Rattle.report_rules.specs.Report.{Watch, Choice, samples_lines, AllowedBefore, IsReportText, IsFirstBad, Covers}

-- at most 16 models, each of at most 6 outputs and of some state
pub record AreFew (ps : List Plant) : Type 0 where
  pub few_models : length ps ≤ 16
  pub few_outputs : All (λ (p : Plant). p.outputs ≤ 6) ps
  pub some_state : All (λ (p : Plant). 1 ≤ p.states) ps

abbrev pub watch : List (List ℕ) → List Plant → List Sample → Bool → Watch
watch names ps samples is_whole = record { names = names; plants = ps; samples = samples; is_whole = is_whole }

-- the lines of the samples taken, from the title on
abbrev pub lines_so_far : List (List ℕ) → List Plant → List Sample → Choice → List Line
lines_so_far names ps taken c = head_lines names ++ samples_lines sets_observer ps taken c (length taken)

-- the bytes begin with the lines of the samples taken, by a choice that is justified, and go on with what is left
pub record Replayed (names : List (List ℕ)) (ps : List Plant) (taken : List Sample) (c : Choice) (bytes left : List ℕ) : Type 0 where
  pub allowed : AllowedBefore any_justified sets_observer (watch names ps taken true) c (length taken)
  pub text : bytes ≡ lines_text (lines_so_far names ps taken c) ++ left

-- the choice with these certificates, or none, at sample k
abbrev pub chosen_at : ℕ → List (Option Certificate) → Choice → Choice
chosen_at k cs c j = if j == k then cs else c j

-- ---- the lines that are taken for a sample before it is judged

-- lines, each with its line feed
abbrev pub with_feeds : List (List ℕ) → List ℕ
with_feeds ts = flat_map (λ t. t ++ 10 ∷ []) ts

-- at most 256 bytes, none of them a line feed
abbrev pub is_short_line : List ℕ → Bool
is_short_line t = nat_le (length t) 256 && not (list_any is_feed t)

-- no short line stands at the front
abbrev pub HasNoLine : List ℕ → Type 0
HasNoLine bytes = (t rest : List ℕ) → is_short_line t ≡ true → bytes ≢ t ++ 10 ∷ rest

-- the certificate, or none, that a line has for model i
abbrev pub IsOfferIn : ℕ → List ℕ → Option Certificate → Type 0
IsOfferIn i t (Some c) = IsLine t (exclude i c)
IsOfferIn i t None = (c : Certificate) → ¬ IsLine t (exclude i c)

-- the same of the first of some lines
abbrev pub IsOffer : ℕ → List (List ℕ) → Option Certificate → Type 0
IsOffer i [] o = o ≡ None
IsOffer i (t ∷ ts) o = IsOfferIn i t o

-- how many lines a live model has: its predictions, and then its exclusion, or its hulls and its status
abbrev pub count_of : Plant → Option Certificate → ℕ
count_of p o = p.outputs + (if is_some o then 1 else p.states + 1)

-- the offers that stand in the lines behind `sample k`, each at the place of its model's outcome; the first plant is that of model i
abbrev pub OffersAre : ℕ → List Plant → List Bool → List (List ℕ) → List (Option Certificate) → Type 0
OffersAre i (p ∷ ps) (true ∷ lives) ts (o ∷ os) =
    IsOffer i (drop p.outputs ts) o × OffersAre (i + 1) ps lives (drop (count_of p o) ts) os
OffersAre i (p ∷ ps) (false ∷ lives) ts (o ∷ os) = OffersAre (i + 1) ps lives ts os
OffersAre i [] [] ts [] = Unit
OffersAre i _ _ ts _ = ⊥

-- lines were taken of what is left, with these offers; `rest` stands behind them
pub record Takes (ps : List Plant) (lives : List Bool) (left : List ℕ) (ts : List (List ℕ)) (rest : List ℕ) (os : List (Option Certificate)) : Type 0 where
  pub are : left ≡ with_feeds ts ++ rest
  pub short : list_all is_short_line ts ≡ true
  pub offers : OffersAre 0 ps lives (drop 1 ts) os

-- n lines were taken, or fewer where no line stands behind them
abbrev pub TakesEnough : ℕ → List (List ℕ) → List ℕ → Type 0
TakesEnough n ts rest = (n ≤ length ts) ⊎ HasNoLine rest

-- ---- what a whole check says

-- the bytes are a whole report; where a row was refused, they begin with all its lines
abbrev pub SatisfiesBy : Bool → Watch → List ℕ → Type 0
SatisfiesBy true w bytes = IsReportText any_justified sets_observer w bytes
SatisfiesBy false w bytes = Covers any_justified sets_observer w bytes

abbrev pub Satisfies : Watch → List ℕ → Type 0
Satisfies w bytes = SatisfiesBy w.is_whole w bytes

-- line n, from 1, is the first that does not follow those before it, and the bytes are not what they have to be
pub record DepartsAt (w : Watch) (n : ℕ) (bytes : List ℕ) : Type 0 where
  pub first_bad : IsFirstBad any_justified sets_observer w n bytes
  pub not_satisfied : ¬ Satisfies w bytes

-- the bytes begin with all lines of a justified report, and line n, from 1, is behind them
abbrev pub CoversBefore : Watch → ℕ → List ℕ → Type 0
CoversBefore w n bytes = (covers : Covers any_justified sets_observer w bytes) × (length covers.0 < n)
