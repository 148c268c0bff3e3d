-- A check in the middle of its telemetry.
use Rattle.std.specs.Prelude.{◌≡◌, ℕ, ◌+◌, ◌*◌, ◌≤◌, Bool, List, [], ◌∷◌, ◌++◌, length}
use Rattle.std.specs.List.{All}
use Rattle.outside_io.specs.Shelf.{ShelfState}
use Rattle.plant_model.specs.Plant.{Plant, Sample}
use Rattle.model_bank.specs.Bank.{BankStands}
use Rattle.report_rules.specs.Report.{Choice, lives_before}
use Rattle.report_rules.specs.Replay.{AreFew, Replayed, watch, lines_so_far, DepartsAt}
use Rattle.cert_replay.specs.Lines.{room}
use Rattle.cert_replay.specs.Window.{HasUnread}
use Rattle.cert_replay.specs.Offers.{AreCountsOf}
use Rattle.cert_replay.specs.declared.counts.LineCounts.{LineCounts}
use Rattle.cert_replay.specs.declared.fault.CheckFault.{CheckFault}
use Rattle.cert_replay.specs.declared.fault.CheckFault.TheVariants.{Report}
use Rattle.cert_replay.specs.declared.replay.Replay.{Replay}

-- names and plants of a model file, with the counts of their lines
pub record AreModels (names : List (List ℕ)) (ps : List Plant) (counts : LineCounts) : Type 0 where
  pub few : AreFew ps
  pub few_states : All (λ (p : Plant). p.states ≤ 8) ps
  pub counts_are : AreCountsOf counts ps

-- the samples taken so far are replayed: the bank stands for them, the report's bytes begin with their lines, and these are counted
pub record Checked (names : List (List ℕ)) (ps : List Plant) (taken : List Sample) (bytes : List ℕ) (r : Replay) (shelf : ShelfState) : Type 0 where
  pub choice : Choice
  pub unread : List ℕ
  pub left : HasUnread r.window shelf unread
  pub replayed : Replayed names ps taken choice bytes unread
  pub stands : BankStands ps taken (lives_before choice (length ps) (length taken)) r.bank
  pub possible_are : r.last.possible.items ≡ lives_before choice (length ps) (length taken)
  pub lines : r.window.lines ≡ length (lines_so_far names ps taken choice)

-- as many models everywhere, and not more lines than their room
pub record IsReady (r : Replay) : Type 0 where
  pub as_many : length r.counts.states.items ≡ length r.bank.members
  pub lines : r.window.lines ≤ room * (r.bank.count + 2)

-- the report departs in the lines of the sample that is added, whatever comes after it
abbrev pub DepartsInSample : (names : List (List ℕ)) (ps : List Plant) (taken : List Sample) (s : Sample) (bytes : List ℕ) → CheckFault → Type 0
DepartsInSample names ps taken s bytes fault = (line : ℕ) → fault ≡ Report line
    → (more : List Sample) (is_whole : Bool) → DepartsAt (watch names ps ((taken ++ s ∷ []) ++ more) is_whole) line bytes
