-- A loop over the members of a bank, one member on.
use Rattle.std.proofs.Common.{Vec, ◌≡◌, ℕ, ◌+◌, ◌<◌, ◌≤◌, ℤ, List, [], ◌∷◌, ◌++◌, length, map, take, drop, get_or, set, Option, None, Some, IfSome, option_map, if◌then◌else◌, Bool, true, false, not, ◌&&◌, ◌||◌, refl, sym, ap, ◌∙◌, arith, append_assoc, add-zero}
use Rattle.std.specs.Borrow.{Bor}
use Rattle.std.specs.Option.{option_to_list}
use Rattle.std.specs.Vec.{with_items}
use Rattle.std.proofs.lemmas.List.{append-nil, map_push, length_push, take_all, drop_all, drop_more, take_more, take-append-drop, get_or_at, set_at, get_or-map, length-map, with_items_is, length-take-le}
use Rattle.farkas_check.specs.Certificate.{Certificate, certificate_of}
use Rattle.farkas_check.specs.declared.certificate.Cert.{Cert}
use Rattle.plant_model.specs.Plant.{Sample}
use Rattle.model_bank.specs.Answers.{ModelAnswer, answer_if}
use Rattle.model_bank.specs.Bank.{Member}
use Rattle.observer_step.specs.declared.outcome.Unjustified.{Unjustified}
use Rattle.observer_step.specs.Answers.{Rule, any_justified}
use Rattle.model_bank.specs.Steps.{answer_of, told_of, allowed_of, answers_of, member_after, members_after, all_allowed_of}
use Rattle.model_bank.specs.Claims.{claimed, rule_of, MemberTakes, MemberRefuses}
use Rattle.model_bank.specs.Offers.{claim_at, rule_for, all_claimed, MembersTake, RefusesMember}
use Rattle.model_bank.specs.declared.claim.Claim.{Claim}
use Rattle.model_bank.specs.declared.claim.Claim.TheVariants.{Offered}
use Rattle.model_bank.proofs.BankStep.{members-many}

-- a list with these items in the place of its first
module _ {A : Type 0} (front old : List A) (i : ℕ) (below : i < length old) (long : length front ≡ i) (now : List A) (so_far : now ≡ front ++ drop i old) (d : A) where
  split : now ≡ front ++ get_or old i d ∷ drop (i + 1) old
  split = so_far ∙ ap (λ xs. front ++ xs) (drop_more old i d below)

  pub next-item : get_or now i d ≡ get_or old i d
  next-item = ap (λ xs. get_or xs i d) split ∙ get_or_at front (get_or old i d) (drop (i + 1) old) d i long

  pub one-more : (x : A) → set now i x ≡ (front ++ x ∷ []) ++ drop (i + 1) old
  one-more x =
      ap (λ xs. set xs i x) split
      ∙ set_at front (get_or old i d) (drop (i + 1) old) x i long
      ∙ sym (append_assoc front (x ∷ []) (drop (i + 1) old))

module _ (is_first : Bool) (u : List ℤ) (s : Sample) where
  members-push : (ms : List Member) (cs : List (Option Certificate)) (m : Member) (c : Option Certificate) → length cs ≡ length ms
      → members_after is_first u s (ms ++ m ∷ []) (cs ++ c ∷ []) ≡ members_after is_first u s ms cs ++ member_after is_first u s m c ∷ []
  members-push [] [] m c e = refl
  members-push [] (d ∷ cs) m c e = absurd cc
  members-push (n ∷ ms) [] m c e = absurd cc
  members-push (n ∷ ms) (d ∷ cs) m c e = ap (λ xs. member_after is_first u s n d ∷ xs) (members-push ms cs m c (omega arith))

  answers-push : (i : ℕ) (ms : List Member) (cs : List (Option Certificate)) (m : Member) (c : Option Certificate) (k : ℕ) → length cs ≡ length ms → k ≡ i + length ms
      → answers_of is_first u s i (ms ++ m ∷ []) (cs ++ c ∷ []) ≡ answers_of is_first u s i ms cs ++ option_to_list (told_of is_first u s k m c)
  answers-push i [] [] m c k e at = ap (λ j. answer_if m.live j (answer_of is_first u s m c) []) (sym (at ∙ add-zero i)) ∙ by m.live
    where
      by : (b : Bool) → answer_if b k (answer_of is_first u s m c) [] ≡ option_to_list (if b then Some (record { index = k; answer = answer_of is_first u s m c }) else None)
      by true = refl
      by false = refl
  answers-push i [] (d ∷ cs) m c k e at = absurd cc
  answers-push i (n ∷ ms) [] m c k e at = absurd cc
  answers-push i (n ∷ ms) (d ∷ cs) m c k e at =
      ap (answer_if n.live i (answer_of is_first u s n d)) (answers-push (i + 1) ms cs m c k (omega arith) (omega arith))
      ∙ by n.live (answers_of is_first u s (i + 1) ms cs) (option_to_list (told_of is_first u s k m c))
    where
      by : (b : Bool) (xs ys : List ModelAnswer) → answer_if b i (answer_of is_first u s n d) (xs ++ ys) ≡ answer_if b i (answer_of is_first u s n d) xs ++ ys
      by true xs ys = refl
      by false xs ys = refl

  allowed-push : (rule : Rule) (ms : List Member) (cs : List (Option Certificate)) (m : Member) (c : Option Certificate) → all_allowed_of rule is_first u s ms cs ≡ true → (not m.live || allowed_of rule is_first u s m c) ≡ true
      → all_allowed_of rule is_first u s (ms ++ m ∷ []) (cs ++ c ∷ []) ≡ true
  allowed-push rule [] [] m c all here = ap (λ b. b && true) here
  allowed-push rule [] (d ∷ cs) m c all here = absurd cc
  allowed-push rule (n ∷ ms) [] m c all here = absurd cc
  allowed-push rule (n ∷ ms) (d ∷ cs) m c all here = by (not n.live || allowed_of rule is_first u s n d) (λ h. allowed-push rule ms cs m c h here) all
    where
      by : (b : Bool) → (all_allowed_of rule is_first u s ms cs ≡ true → all_allowed_of rule is_first u s (ms ++ m ∷ []) (cs ++ c ∷ []) ≡ true) → b && all_allowed_of rule is_first u s ms cs ≡ true
          → b && all_allowed_of rule is_first u s (ms ++ m ∷ []) (cs ++ c ∷ []) ≡ true
      by true more h = more h
      by false more h = h

-- what was told of one more
pub told-more : {A B : Type 0} (f : A → B) (xs : List A) (o : Option A) → map f (xs ++ option_to_list o) ≡ map f xs ++ option_to_list (option_map f o)
told-more f xs None = ap (map f) (append-nil xs) ∙ sym (append-nil (map f xs))
told-more f xs (Some x) = map_push f xs x

pub told-few : {A : Type 0} (xs : List A) (o : Option A) → length (xs ++ option_to_list o) ≤ length xs + 1
told-few xs None = omega (arith, ap length (append-nil xs))
told-few xs (Some x) = omega (arith, length_push xs x)

-- there is an offer for each member
pub offers-room : (offered : Option (Bor (List (Option Cert)))) (n i : ℕ) → IfSome offered (λ offers. length offers.now ≡ n) → i < n → IfSome offered (λ offers. i < length offers.now)
offers-room None n i many below = tt
offers-room (Some offers) n i many below = omega arith

-- the rule of a claim is that of all
rule-here : (offered : Option (Bor (List (Option Cert)))) (i : ℕ) (claim : Claim) → claim ≡ claim_at offered i → rule_of claim ≡ rule_for offered
rule-here None i claim is = ap rule_of is
rule-here (Some offers) i claim is = ap rule_of is

-- what is claimed of the first members, and of one more
claimed-more : (offered : Option (Bor (List (Option Cert)))) (i : ℕ) (claim : Claim) → claim ≡ claim_at offered i → (cs : List (Option Certificate)) (c : Option Certificate) → length cs ≡ i
    → IfSome offered (λ offers. i < length offers.now) → cs ≡ take i (all_claimed offered cs) → c ≡ claimed claim c → cs ++ c ∷ [] ≡ take (i + 1) (all_claimed offered (cs ++ c ∷ []))
claimed-more None i claim is cs c long below are here =
    let whole : length (cs ++ c ∷ []) ≡ i + 1 = length_push cs c ∙ ap (λ n. n + 1) long in
    sym (take_all (i + 1) (cs ++ c ∷ []) (omega arith))
claimed-more (Some offers) i claim is cs c long below are here =
    let all = map (option_map certificate_of) offers.now in
    let many : length all ≡ length offers.now = length-map offers.now (option_map certificate_of) in
    let one : c ≡ get_or all i None = here ∙ ap (λ k. claimed k c) is ∙ sym (get_or-map (option_map certificate_of) offers.now i None None below) in
    (λ j. are j ++ one j ∷ []) ∙ sym (take_more all i None (omega arith))

-- what was made of the first i members of a bank
pub record Took (is_first : Bool) (u : List ℤ) (s : Sample) (offered : Option (Bor (List (Option Cert)))) (old : List Member) (i : ℕ)
    (cs : List (Option Certificate)) (seen : List ModelAnswer) (now : List Member) : Type 0 where
  pub long : length cs ≡ i
  pub are_claimed : cs ≡ take i (all_claimed offered cs)
  pub allowed : all_allowed_of (rule_for offered) is_first u s (take i old) cs ≡ true
  pub so_far : seen ≡ answers_of is_first u s 0 (take i old) cs
  pub taken : now ≡ members_after is_first u s (take i old) cs ++ drop i old

module _ (is_first : Bool) (u : List ℤ) (s : Sample) (offered : Option (Bor (List (Option Cert)))) (old : List Member) where
  pub took-none : Took is_first u s offered old 0 [] [] old
  took-none = record { long = refl; are_claimed = refl; allowed = refl; so_far = refl; taken = refl }

  pub took-all : (i : ℕ) (cs : List (Option Certificate)) (seen : List ModelAnswer) (now : List Member) → i ≡ length old
      → IfSome offered (λ offers. length offers.now ≡ length old) → Took is_first u s offered old i cs seen now → MembersTake is_first u s offered old seen now
  took-all i cs seen now all many took =
      let whole : take i old ≡ old = take_all i old (omega arith) in
      let none : drop i old ≡ [] = drop_all i old (omega arith) in
      record {
        certificates = cs;
        are_claimed = took.are_claimed ∙ every offered many;
        allowed = ap (λ ms. all_allowed_of (rule_for offered) is_first u s ms cs) (sym whole) ∙ took.allowed;
        seen_are = took.so_far ∙ ap (λ ms. answers_of is_first u s 0 ms cs) whole;
        new_are = took.taken ∙ (λ j. members_after is_first u s (whole j) cs ++ none j) ∙ append-nil (members_after is_first u s old cs);
      }
    where
      every : (offered : Option (Bor (List (Option Cert)))) → IfSome offered (λ offers. length offers.now ≡ length old) → take i (all_claimed offered cs) ≡ all_claimed offered cs
      every None many = let long = took.long in take_all i cs (omega arith)
      every (Some offers) many = let long = length-map offers.now (option_map certificate_of) in take_all i (map (option_map certificate_of) offers.now) (omega arith)

  module _ (i : ℕ) (below : i < length old) (cs : List (Option Certificate)) (seen : List ModelAnswer) (now : List Member) (took : Took is_first u s offered old i cs seen now) where
    as_many : length cs ≡ length (take i old)
    as_many = took.long ∙ sym (length-take-le i old (omega arith))

    abbrev front : List Member
    front = members_after is_first u s (take i old) cs

    front-long : length front ≡ i
    front-long = members-many is_first u s (take i old) cs as_many ∙ length-take-le i old (omega arith)

    -- the next member is as it was
    pub took-next : (d : Member) → get_or now i d ≡ get_or old i d
    took-next d = next-item front old i below front-long now took.taken d

    -- member i, once it is taken
    module _ (d m : Member) (here : m ≡ get_or old i d) (claim : Claim) (claim_is : claim ≡ claim_at offered i) where
      pub took-more : (new : Member) (told : Option ModelAnswer) → IfSome offered (λ offers. i < length offers.now) → (takes : MemberTakes is_first u s i m new claim told)
          → Took is_first u s offered old (i + 1) (cs ++ takes.certificate ∷ []) (seen ++ option_to_list told) (set now i new)
      took-more new told room takes =
          let c = takes.certificate in
          let more : take (i + 1) old ≡ take i old ++ m ∷ [] = take_more old i d below ∙ ap (λ x. take i old ++ x ∷ []) (sym here) in
          let at : i ≡ 0 + length (take i old) = omega (arith, length-take-le i old (omega arith)) in
          let rule = rule_for offered in
          let allowed : (not m.live || allowed_of rule is_first u s m c) ≡ true = ap (λ r. not m.live || allowed_of r is_first u s m c) (sym (rule-here offered i claim claim_is)) ∙ takes.allowed in
          record {
            long = length_push cs c ∙ ap (λ n. n + 1) took.long;
            are_claimed = claimed-more offered i claim claim_is cs c took.long room took.are_claimed takes.is_claimed;
            allowed = ap (λ ms. all_allowed_of rule is_first u s ms (cs ++ c ∷ [])) more ∙ allowed-push is_first u s rule (take i old) cs m c took.allowed allowed;
            so_far = (λ j. took.so_far j ++ option_to_list (takes.told_is j)) ∙ sym (answers-push is_first u s 0 (take i old) cs m c i as_many at)
                ∙ ap (λ ms. answers_of is_first u s 0 ms (cs ++ c ∷ [])) (sym more);
            taken = one-more front old i below front-long now took.taken d new
                ∙ ap (λ x. (front ++ x ∷ []) ++ drop (i + 1) old) takes.new_is
                ∙ ap (λ xs. xs ++ drop (i + 1) old) (sym (members-push is_first u s (take i old) cs m c as_many)
                ∙ ap (λ ms. members_after is_first u s ms (cs ++ c ∷ [])) (sym more));
          }

      pub refused-here : (e : Unjustified) → IfSome offered (λ offers. i < length offers.now) → MemberRefuses is_first u s m claim e
          → RefusesMember is_first u s offered old (record { model = i; before = seen; predicted = e.outs.items; due = e.why.due; offered = option_map certificate_of e.why.offered })
      refused-here e room refuses =
          let is = claim-split offered room (sym claim_is ∙ refuses.refuses.claim_is) took.allowed took.are_claimed in
          record {
            below = take i old;
            claims_below = cs;
            member = m;
            above = drop (i + 1) old;
            claims_above = drop (i + 1) (all_claimed offered []);
            members_are = sym (take-append-drop i old) ∙ ap (λ xs. take i old ++ xs) (drop_more old i d below) ∙ ap (λ x. take i old ++ x ∷ drop (i + 1) old) (sym here);
            claims_are = is.1;
            model_is = sym (length-take-le i old (omega arith));
            live = refuses.live;
            justified_below = is.0;
            not_justified = refuses.refuses.not_justified;
            due_is = refuses.refuses.due_is;
            before_are = took.so_far;
            predicted_are = refuses.refuses.outs_are;
          }
        where
          claim-split : (offered : Option (Bor (List (Option Cert)))) → IfSome offered (λ offers. i < length offers.now) → claim_at offered i ≡ Offered e.why.offered
              → all_allowed_of (rule_for offered) is_first u s (take i old) cs ≡ true → cs ≡ take i (all_claimed offered cs)
              → (all_allowed_of any_justified is_first u s (take i old) cs ≡ true)
              × ((own : List (Option Certificate)) → all_claimed offered own ≡ cs ++ option_map certificate_of e.why.offered ∷ drop (i + 1) (all_claimed offered []))
          claim-split None room is all are = absurd cc
          claim-split (Some offers) room is all are =
              let claims = map (option_map certificate_of) offers.now in
              let many : length claims ≡ length offers.now = length-map offers.now (option_map certificate_of) in
              let offer : get_or offers.now i None ≡ e.why.offered = cc in
              let one : get_or claims i None ≡ option_map certificate_of e.why.offered = get_or-map (option_map certificate_of) offers.now i None None room ∙ ap (option_map certificate_of) offer in (
                all,
                λ own. sym (take-append-drop i claims) ∙ ap (λ xs. take i claims ++ xs) (drop_more claims i None (omega arith))
                    ∙ (λ j. sym are j ++ one j ∷ drop (i + 1) claims),
              )

-- the items of a Vec once a list is written back
pub items-are : {A Z : Type 0} (v : Vec A Z) (new : List A) → length v.items ≡ v.len → length new ≡ length v.items → (with_items v new).items ≡ new
items-are v new size long = with_items_is v new (long ∙ size)
