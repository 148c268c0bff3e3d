-- The offers that are read in the lines of a sample, model by model.
use Rattle.std.proofs.Common.{◌≡◌, inl, inr, ℕ, suc, ◌+◌, ◌*◌, ◌<◌, ◌≤◌, Bool, true, false, List, [], ◌∷◌, ◌++◌, length, drop, get_or, Option, Some, None, Result, Ok, Err, OnOk, refl, sym, ap, ◌∙◌, arith, subst, append-nil, append_assoc, length-append, drop-cons}
use Rattle.std.specs.List.{list_all}
use Rattle.std.proofs.Math.ListN.{drop_of_length-le, get_or-map}
use Rattle.std.proofs.lemmas.List.{length-map, drop-append-le, length-drop}
use Rattle.std.proofs.lemmas.List.Folds.{list_all-append}
use Rattle.outside_io.specs.Shelf.{ShelfState}
use Rattle.farkas_check.specs.Certificate.{Certificate}
use Rattle.plant_model.specs.Plant.{Plant}
use Rattle.report_rules.specs.Replay.{with_feeds, is_short_line, IsOffer, OffersAre, TakesEnough, count_of}
use Rattle.report_rules.proofs.Placed.{and-true}
use Rattle.cert_replay.specs.Window.{left_in, HasUnread, ReadsAhead, TakesLines}
use Rattle.cert_replay.specs.Offers.{lines_of, many_lines, TakesModel, TakesIfLive, TakesModels, AddsOffers, TakesSample}
use Rattle.cert_replay.specs.declared.counts.LineCounts.{LineCounts}
use Rattle.cert_replay.specs.declared.window.Window.{Window}
use Rattle.cert_replay.proofs.Taken.{stand-longer, stand-unread, stand-long, feeds-append}
use Rattle.std.specs.Prelude.{IfSome}
use Rattle.report_rules.specs.Claims.{no_plant}
use Rattle.cert_replay.specs.Lines.{most_line}
use Rattle.cert_replay.proofs.Models.{behind-lines, if-at}

drop-none : {A : Type 0} (n : ℕ) → ◌≡◌ {A = List A} (drop n []) []
drop-none n = drop_of_length-le [] (omega arith)

-- an offer that a line has is that of the line, whatever stands behind it
offer-longer : (i : ℕ) (o : Option Certificate) (ts us : List (List ℕ)) → 1 ≤ length ts → IsOffer i ts o → IsOffer i (ts ++ us) o
offer-longer i o [] us some h = absurd (omega (arith, some))
offer-longer i o (t ∷ ts) us some h = h

module _ (i : ℕ) (p : Plant) (ps : List Plant) (lives : List Bool) (o : Option Certificate) (os : List (Option Certificate)) (w0 w1 w2 : Window) (s0 s1 s2 : ShelfState)
    (outputs states : ℕ) (outputs-are : p.outputs ≡ outputs) (states-are : p.states ≡ states) (ahead : ReadsAhead w1 s1 w2 s2) where
  many-are : many_lines outputs states o ≡ count_of p o
  many-are = ap (λ n. many_lines n states o) (sym outputs-are) ∙ ap (λ n. many_lines p.outputs n o) (sym states-are)

  some-behind : outputs < many_lines outputs states o
  some-behind = by o
    where
      by : (o : Option Certificate) → outputs < many_lines outputs states o
      by None = omega arith
      by (Some c) = omega arith

  -- a live model, and those behind it
  pub takes-live : (place behind : Option ℕ) (unread : List ℕ) → HasUnread w0 s0 unread → HasUnread w2 s2 unread
      → ((from : ℕ) → place ≡ Some from → from ≤ length (left_in w1))
      → TakesModel i outputs states place w0 s0 w1 (o, behind)
      → TakesModels (i + 1) ps lives behind (left_in w2) unread os
      → TakesModels i (p ∷ ps) (true ∷ lives) place (left_in w2) unread (o ∷ os)
  takes-live None behind unread u u2 h m r =
      let rest : TakesModels (i + 1) ps lives None (left_in w2) unread os = subst (λ b. TakesModels (i + 1) ps lives b (left_in w2) unread os) m.1 r in (
        subst (λ ts. IsOffer i ts o) (sym (drop-none p.outputs)) m.0,
        subst (λ ts. OffersAre (i + 1) ps lives ts os) (sym (drop-none (count_of p o))) rest,
      )
  takes-live (Some a) (Some b) unread u u2 h m r =
      let within = h a refl in
      let tm = m.stands.ts in
      let there = stand-longer (many_lines outputs states o) a b (left_in w1) ahead.piece (left_in w2) ahead.grows within m.stands in
      let wide : a ≤ length (left_in w2) = omega (arith, within, ap length ahead.grows, length-append (left_in w1) ahead.piece) in
      let long = stand-long (many_lines outputs states o) a b (left_in w2) wide there in
      let all : length tm ≡ count_of p o = m.stands.as_many ∙ many-are in
      let many = m.stands.as_many in
      record {
        ts = tm ++ r.ts;
        rest = r.rest;
        short = list_all-append is_short_line tm r.ts ∙ and-true (list_all is_short_line tm) (list_all is_short_line r.ts) m.stands.short r.short;
        are = stand-unread (many_lines outputs states o) a b (left_in w2) u2.rest unread u2.is wide there ∙ ap (λ t. with_feeds tm ++ t) r.are
            ∙ sym (append_assoc (with_feeds tm) (with_feeds r.ts) r.rest) ∙ ap (λ t. t ++ r.rest) (sym (feeds-append tm r.ts));
        offers = (
          subst (λ ts. IsOffer i ts o) (sym (ap (λ n. drop n (tm ++ r.ts)) outputs-are ∙ drop-append-le outputs tm r.ts (omega (arith, many, some-behind))))
              (offer-longer i o (drop outputs tm) r.ts (omega (arith, length-drop outputs tm, many, some-behind)) m.offer),
          subst (λ ts. OffersAre (i + 1) ps lives ts os) (sym (behind-lines tm r.ts (count_of p o) all)) r.offers,
        );
        enough = more r.enough;
        within = omega (arith, ap length (feeds-append tm r.ts), length-append (with_feeds tm) (with_feeds r.ts), long, r.within);
      }
    where
      more : TakesEnough (lines_of ps lives os + 2) r.ts r.rest → TakesEnough (lines_of (p ∷ ps) (true ∷ lives) (o ∷ os) + 2) (m.stands.ts ++ r.ts) r.rest
      more (inl enough) = inl (omega (arith, enough, m.stands.as_many, many-are, length-append m.stands.ts r.ts))
      more (inr none) = inr none
  takes-live (Some a) None unread u u2 h m r =
      let q = m unread u in
      let at-most : length q.stops.ts ≤ count_of p o = omega (arith, q.stops.fewer, many-are) in
      record {
        ts = q.stops.ts;
        rest = q.stops.rest;
        short = q.stops.short;
        are = q.stops.are;
        offers = (
          subst (λ n. IsOffer i (drop n q.stops.ts) o) (sym outputs-are) q.offer,
          subst (λ ts. OffersAre (i + 1) ps lives ts os) (sym (drop_of_length-le q.stops.ts at-most)) r,
        );
        enough = inr q.stops.none;
        within = omega (arith, q.stops.within, ap length ahead.grows, length-append (left_in w1) ahead.piece);
      }

-- a model that is not live has no lines
pub takes-dead : (i : ℕ) (p : Plant) (ps : List Plant) (lives : List Bool) (o : Option Certificate) (os : List (Option Certificate)) (place : Option ℕ) (bytes unread : List ℕ)
    → TakesModels (i + 1) ps lives place bytes unread os → TakesModels i (p ∷ ps) (false ∷ lives) place bytes unread (o ∷ os)
takes-dead i p ps lives o os None bytes unread r = r
takes-dead i p ps lives o os (Some a) bytes unread r = record {
  ts = r.ts;
  rest = r.rest;
  short = r.short;
  are = r.are;
  offers = r.offers;
  enough = subst (λ n. TakesEnough n r.ts r.rest) same r.enough;
  within = r.within;
}
  where
    same : lines_of ps lives os + 2 ≡ lines_of (p ∷ ps) (false ∷ lives) (o ∷ os) + 2
    same = omega arith

-- behind the last model stand two lines
pub takes-closing : (i : ℕ) (place to : Option ℕ) (w0 w : Window) (s0 s : ShelfState) (unread : List ℕ) → HasUnread w0 s0 unread → HasUnread w s unread
    → ((from : ℕ) → place ≡ Some from → from ≤ length (left_in w))
    → TakesLines 2 place w0 s0 w to → TakesModels i [] [] place (left_in w) unread []
takes-closing i None to w0 w s0 s unread u u2 h t = tt
takes-closing i (Some a) (Some b) w0 w s0 s unread u u2 h t = record {
  ts = t.ts;
  rest = drop b unread;
  short = t.short;
  are = stand-unread 2 a b (left_in w) u2.rest unread u2.is (h a refl) t;
  offers = tt;
  enough = inl (omega (arith, t.as_many));
  within = omega (arith, stand-long 2 a b (left_in w) (h a refl) t, t.within);
}
takes-closing i (Some a) None w0 w s0 s unread u u2 h t =
    let q = t unread u in
    record {
      ts = q.ts;
      rest = q.rest;
      short = q.short;
      are = q.are;
      offers = tt;
      enough = inr q.none;
      within = q.within;
    }

-- the first line of a sample, and those of the models
pub takes-sample : (ps : List Plant) (lives : List Bool) (os : List (Option Certificate)) (place : Option ℕ) (w0 w1 w2 : Window) (s0 s1 s2 : ShelfState) (unread : List ℕ)
    → HasUnread w0 s0 unread → HasUnread w2 s2 unread → ReadsAhead w1 s1 w2 s2
    → TakesLines 1 (Some 0) w0 s0 w1 place → TakesModels 0 ps lives place (left_in w2) unread os → TakesSample ps lives (left_in w2) unread os
takes-sample ps lives os (Some b) w0 w1 w2 s0 s1 s2 unread u u2 ahead t r =
    let there = stand-longer 1 0 b (left_in w1) ahead.piece (left_in w2) ahead.grows (omega arith) t in
    let long = stand-long 1 0 b (left_in w2) (omega arith) there in
    let first = t.ts in
    record {
      ts = first ++ r.ts;
      rest = r.rest;
      takes = record {
        are = stand-unread 1 0 b (left_in w2) u2.rest unread u2.is (omega arith) there ∙ ap (λ x. with_feeds first ++ x) r.are ∙ sym (append_assoc (with_feeds first) (with_feeds r.ts) r.rest) ∙ ap (λ x. x ++ r.rest) (sym (feeds-append first r.ts));
        short = list_all-append is_short_line first r.ts ∙ and-true (list_all is_short_line first) (list_all is_short_line r.ts) t.short r.short;
        offers = subst (λ ts. OffersAre 0 ps lives ts os) (sym (behind-lines first r.ts 1 t.as_many)) r.offers;
      };
      enough = more r.enough;
      within = omega (arith, ap length (feeds-append first r.ts), length-append (with_feeds first) (with_feeds r.ts), long, r.within);
    }
  where
    more : TakesEnough (lines_of ps lives os + 2) r.ts r.rest → TakesEnough (lines_of ps lives os + 3) (t.ts ++ r.ts) r.rest
    more (inl enough) = inl (omega (arith, enough, t.as_many, length-append t.ts r.ts))
    more (inr none) = inr none
takes-sample ps lives os None w0 w1 w2 s0 s1 s2 unread u u2 ahead t r =
    let q = t unread u in
    let few : length q.ts ≤ 1 = omega (arith, q.fewer) in
    record {
      ts = q.ts;
      rest = q.rest;
      takes = record {
        are = q.are;
        short = q.short;
        offers = subst (λ ts. OffersAre 0 ps lives ts os) (sym (drop_of_length-le q.ts few)) r;
      };
      enough = inr q.none;
      within = omega (arith, q.within, ap length ahead.grows, length-append (left_in w1) ahead.piece);
    }

-- ---- the offers that are added

-- after the last model
pub adds-closing : (c : LineCounts) (lives : List Bool) (place to : Option ℕ) (w0 w1 : Window) (s0 s1 : ShelfState) (before : List (Option Certificate)) → length before ≡ length lives
    → length lives ≡ length c.states.items → IfSome place (λ from. from ≤ length (left_in w0)) → ReadsAhead w0 s0 w1 s1 → TakesLines 2 place w0 s0 w1 to → AddsOffers c lives place w0 s0 w1 before before
adds-closing c lives place to w0 w1 s0 s1 before all many begins ahead t = record {
  os = [];
  added = sym (append-nil before);
  as_many = all;
  takes = λ ps are unread u.
      let plants : drop (length before) ps ≡ [] = drop_of_length-le ps (omega (arith, all, many, ap length are.states_are, length-map ps (λ (p : Plant). p.states))) in
      let none : drop (length before) lives ≡ [] = drop_of_length-le lives (omega (arith, all)) in
      subst (λ qs. TakesModels (length before) qs (drop (length before) lives) place (left_in w1) unread []) (sym plants)
      (subst (λ ls. TakesModels (length before) [] ls place (left_in w1) unread []) (sym none)
      (takes-closing (length before) place to w0 w1 s0 s1 unread u (ahead.same unread u)
      (λ from e. omega (arith, if-at place (λ from. from ≤ length (left_in w0)) from begins e, ap length ahead.grows, length-append (left_in w0) ahead.piece)) t));
}

-- one model, and then the others
pub adds-model : (c : LineCounts) (lives : List Bool) (place behind : Option ℕ) (w0 w1 w2 : Window) (s0 s1 s2 : ShelfState) (before after : List (Option Certificate)) (o : Option Certificate)
    (live : Bool) (states : ℕ) → length before < length lives → length lives ≡ length c.states.items → IfSome place (λ from. from ≤ length (left_in w0))
    → live ≡ get_or lives (length before) false → states ≡ get_or c.states.items (length before) 0
    → ReadsAhead w0 s0 w1 s1 → ReadsAhead w1 s1 w2 s2
    → TakesIfLive live (length before) c.outputs states place w0 s0 w1 (o, behind)
    → AddsOffers c lives behind w1 s1 w2 (before ++ o ∷ []) after → AddsOffers c lives place w0 s0 w2 before after
adds-model c lives place behind w0 w1 w2 s0 s1 s2 before after o live states less many begins live-is states-is a1 a2 t r = record {
  os = o ∷ r.os;
  added = r.added ∙ append_assoc before (o ∷ []) r.os;
  as_many = r.as_many;
  takes = λ ps are unread u.
      let i = length before in
      let next : length (before ++ o ∷ []) ≡ i + 1 = length-append before (o ∷ []) in
      let suc-is : i + 1 ≡ suc i = omega arith in
      let as_many : length ps ≡ length lives = omega (arith, many, ap length are.states_are, length-map ps (λ (p : Plant). p.states)) in
      let p = get_or ps i no_plant in
      let plants : drop i ps ≡ p ∷ drop (i + 1) ps = drop-cons ps i no_plant (omega (arith, less, as_many)) ∙ ap (λ n. p ∷ drop n ps) (sym suc-is) in
      let alive : drop i lives ≡ live ∷ drop (i + 1) lives = drop-cons lives i false less ∙ ap (λ n. get_or lives i false ∷ drop n lives) (sym suc-is) ∙ ap (λ b. b ∷ drop (i + 1) lives) (sym live-is) in
      let outs : p.outputs ≡ c.outputs = are.outputs_are i no_plant (omega (arith, less, as_many)) in
      let sizes : p.states ≡ states = sym (get_or-map (λ (p : Plant). p.states) ps i no_plant) ∙ ap (λ xs. get_or xs i 0) are.states_are ∙ sym states-is in
      let rest : TakesModels (i + 1) (drop (i + 1) ps) (drop (i + 1) lives) behind (left_in w2) unread r.os =
      subst (λ n. TakesModels n (drop n ps) (drop n lives) behind (left_in w2) unread r.os) next (r.takes ps are unread (a1.same unread u)) in
      subst (λ qs. TakesModels i qs (drop i lives) place (left_in w2) unread (o ∷ r.os)) (sym plants)
      (subst (λ ls. TakesModels i (p ∷ drop (i + 1) ps) ls place (left_in w2) unread (o ∷ r.os)) (sym alive)
      (by live p (drop (i + 1) ps) (drop (i + 1) lives) outs sizes unread u (a2.same unread (a1.same unread u)) t rest));
}
  where
    wide : (from : ℕ) → place ≡ Some from → from ≤ length (left_in w1)
    wide from e = omega (arith, if-at place (λ from. from ≤ length (left_in w0)) from begins e, ap length a1.grows, length-append (left_in w0) a1.piece)

    by : (live : Bool) (p : Plant) (ps : List Plant) (ls : List Bool) → p.outputs ≡ c.outputs → p.states ≡ states → (unread : List ℕ) → HasUnread w0 s0 unread → HasUnread w2 s2 unread
        → TakesIfLive live (length before) c.outputs states place w0 s0 w1 (o, behind)
        → TakesModels (length before + 1) ps ls behind (left_in w2) unread r.os → TakesModels (length before) (p ∷ ps) (live ∷ ls) place (left_in w2) unread (o ∷ r.os)
    by true p ps ls outs sizes unread u u2 t rest = takes-live (length before) p ps ls o r.os w0 w1 w2 s0 s1 s2 c.outputs states outs sizes a2 place behind unread u u2 wide t rest
    by false p ps ls outs sizes unread u u2 t rest =
        takes-dead (length before) p ps ls o r.os place (left_in w2) unread (subst (λ b. TakesModels (length before + 1) ps ls b (left_in w2) unread r.os) t.1 rest)

-- where the lines of a model end
pub ends-near : (live : Bool) (i outputs states : ℕ) (place : Option ℕ) (w0 w1 : Window) (s0 s1 : ShelfState) (o : Option Certificate) (behind : Option ℕ) (n : ℕ) → outputs ≤ 6 → states ≤ 8
    → IfSome place (λ from. from ≤ length (left_in w0)) → IfSome place (λ from. from ≤ n) → ReadsAhead w0 s0 w1 s1
    → TakesIfLive live i outputs states place w0 s0 w1 (o, behind)
    → IfSome behind (λ to. to ≤ length (left_in w1)) × IfSome behind (λ to. to ≤ n + most_line * 15)
ends-near live i outputs states place w0 w1 s0 s1 o behind n few_outputs few_states begins near ahead t = by live place behind begins near t
  where
    few : (o : Option Certificate) → many_lines outputs states o ≤ 15
    few None = omega (arith, few_outputs, few_states)
    few (Some c) = omega (arith, few_outputs)

    by : (live : Bool) (place behind : Option ℕ) → IfSome place (λ from. from ≤ length (left_in w0)) → IfSome place (λ from. from ≤ n)
        → TakesIfLive live i outputs states place w0 s0 w1 (o, behind) → IfSome behind (λ to. to ≤ length (left_in w1)) × IfSome behind (λ to. to ≤ n + most_line * 15)
    by true place None begins near t = (tt, tt)
    by true None (Some b) begins near t = absurd cc
    by true (Some a) (Some b) begins near t = (t.stands.within, omega (arith, t.stands.near, near, few o))
    by false None None begins near t = (tt, tt)
    by false None (Some b) begins near t = absurd cc
    by false (Some a) None begins near t = (tt, tt)
    by false (Some a) (Some b) begins near t =
        let same : b ≡ a = cc (t.1) in
        (omega (arith, same, begins, ap length ahead.grows, length-append (left_in w0) ahead.piece), omega (arith, same, near))

pub on-both : {A E : Type 0} (r : Result A E) (P Q R : Type 0) → (P → Q → R) → OnOk r P → OnOk r Q → OnOk r R
on-both (Ok x) P Q R f p q = f p q
on-both (Err e) P Q R f p q = tt
