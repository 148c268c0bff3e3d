-- The certificates that a report offers for a sample, and the lines that are taken for it.
use Rattle.std.specs.Prelude.{◌≡◌, ℕ, ◌+◌, ◌≤◌, Bool, true, false, List, [], ◌∷◌, ◌++◌, length, map, drop, Option, Some, None, option_map, is_some, if◌then◌else◌}
use Rattle.std.specs.List.{All, list_all}
use Rattle.farkas_check.specs.Certificate.{Certificate, certificate_of}
use Rattle.farkas_check.specs.declared.certificate.Cert.{Cert}
use Rattle.plant_model.specs.Plant.{Plant}
use Rattle.outside_io.specs.Shelf.{ShelfState}
use Rattle.report_rules.specs.Replay.{with_feeds, is_short_line, IsOffer, OffersAre, Takes, TakesEnough, count_of}
use Rattle.cert_replay.specs.Window.{left_in, HasUnread, LinesStand, LinesStop}
use Rattle.cert_replay.specs.declared.counts.LineCounts.{LineCounts}
use Rattle.cert_replay.specs.declared.window.Window.{Window}

-- the counts of these plants
pub record AreCountsOf (c : LineCounts) (ps : List Plant) : Type 0 where
  pub outputs_are : All (λ (p : Plant). p.outputs ≡ c.outputs) ps
  pub states_are : map (λ (p : Plant). p.states) ps ≡ c.states.items

-- how many lines the live models have with these offers
abbrev pub lines_of : List Plant → List Bool → List (Option Certificate) → ℕ
lines_of (p ∷ ps) (live ∷ lives) (o ∷ os) = (if live then count_of p o else 0) + lines_of ps lives os
lines_of _ _ _ = 0

-- how many lines a live model of so many outputs and states has
abbrev pub many_lines : ℕ → ℕ → Option Certificate → ℕ
many_lines outputs states o = outputs + (if is_some o then 1 else states + 1)

-- the lines of a model stand between these places, with its offer at the place of its outcome
pub record ModelStands (i outputs states : ℕ) (o : Option Certificate) (from to : ℕ) (bytes : List ℕ) : Type 0 where
  pub stands : LinesStand (many_lines outputs states o) from to bytes
  pub offer : IsOffer i (drop outputs stands.ts) o

-- not all of them stand from this place on
pub record ModelStops (i outputs states : ℕ) (o : Option Certificate) (from : ℕ) (bytes unread : List ℕ) : Type 0 where
  pub stops : LinesStop (many_lines outputs states o) from bytes unread
  pub offer : IsOffer i (drop outputs stops.ts) o

-- an offer, and where the lines of its model end
abbrev pub offer_seen : Option Cert × Option ℕ → Option Certificate × Option ℕ
offer_seen r = (option_map certificate_of r.0, r.1)

-- the lines of a model were taken from a place on, where lines were taken up to there
abbrev pub TakesModel : ℕ → ℕ → ℕ → Option ℕ → Window → ShelfState → Window → Option Certificate × Option ℕ → Type 0
TakesModel i outputs states None w shelf w' (o, to) = (o ≡ None) × (to ≡ None)
TakesModel i outputs states (Some from) w shelf w' (o, Some to) = ModelStands i outputs states o from to (left_in w')
TakesModel i outputs states (Some from) w shelf w' (o, None) =
    (unread : List ℕ) → HasUnread w shelf unread → ModelStops i outputs states o from (left_in w') unread

-- the same of a model that may not be live: then no line is taken, and it has no offer
abbrev pub TakesIfLive : Bool → ℕ → ℕ → ℕ → Option ℕ → Window → ShelfState → Window → Option Certificate × Option ℕ → Type 0
TakesIfLive true i outputs states place w shelf w' (o, to) = TakesModel i outputs states place w shelf w' (o, to)
TakesIfLive false i outputs states place w shelf w' (o, to) = (o ≡ None) × (to ≡ place)

-- the lines of these models, and two more, were taken from this place on; the first is model i
pub record TakesFrom (i : ℕ) (ps : List Plant) (lives : List Bool) (from : ℕ) (bytes unread : List ℕ) (os : List (Option Certificate)) : Type 0 where
  pub ts : List (List ℕ)
  pub rest : List ℕ
  pub short : list_all is_short_line ts ≡ true
  pub are : drop from unread ≡ with_feeds ts ++ rest
  pub offers : OffersAre i ps lives ts os
  pub enough : TakesEnough (lines_of ps lives os + 2) ts rest
  pub within : from + length (with_feeds ts) ≤ length bytes

-- the same, where lines were taken up to a place
abbrev pub TakesModels : ℕ → List Plant → List Bool → Option ℕ → List ℕ → List ℕ → List (Option Certificate) → Type 0
TakesModels i ps lives None bytes unread os = OffersAre i ps lives [] os
TakesModels i ps lives (Some from) bytes unread os = TakesFrom i ps lives from bytes unread os

-- offers were added for the models behind those that have some
pub record AddsOffers (c : LineCounts) (lives : List Bool) (place : Option ℕ) (w : Window) (shelf : ShelfState) (w' : Window)
    (before after : List (Option Certificate)) : Type 0 where
  pub os : List (Option Certificate)
  pub added : after ≡ before ++ os
  pub as_many : length after ≡ length lives
  pub takes : (ps : List Plant) → AreCountsOf c ps → (unread : List ℕ) → HasUnread w shelf unread
      → TakesModels (length before) (drop (length before) ps) (drop (length before) lives) place (left_in w') unread os

-- the lines of a sample were taken, with these offers
pub record TakesSample (ps : List Plant) (lives : List Bool) (bytes unread : List ℕ) (os : List (Option Certificate)) : Type 0 where
  pub ts : List (List ℕ)
  pub rest : List ℕ
  pub takes : Takes ps lives unread ts rest os
  pub enough : TakesEnough (lines_of ps lives os + 3) ts rest
  pub within : length (with_feeds ts) ≤ length bytes
