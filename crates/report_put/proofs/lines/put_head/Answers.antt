use Rattle.std.proofs.Common.{◌≡◌, ℕ, ◌+◌, ◌<◌, List, [], ◌∷◌, ◌++◌, take, drop, map, length, get_or, ap, sym, ◌∙◌, refl, arith}
use Rattle.std.specs.List.{enumerate_from}
use Rattle.std.proofs.lemmas.List.{length-map}
use Rattle.std.proofs.Math.ListN.{get_or-map}
use Rattle.std.proofs.lemmas.Result.{err_from_is_err_and}
use Rattle.report_text.specs.Line.{title, model}
use Rattle.report_rules.specs.Lines.{head_lines}
use Rattle.model_file.specs.Bank.{Named, Models, no_model}
use Rattle.model_bank.specs.Bank.{names_in}
use Rattle.report_put.proofs.Put.{has-more, cut-first, cut-turn, numbered-more, numbered-rest}
use Rattle.report_put.proofs.lines.put_head.Goals as goal

module _ (m : Models) (i : ℕ) (name : List ℕ) (h : i < length m.models) (is : name ≡ (get_or m.models i no_model).name) where
  named : name ≡ get_or (names_in m) i []
  named = is ∙ sym (get_or-map (λ (n : Named). n.name) m.models i no_model)

  -- one name more
  name-more : head_lines (take (i + 1) (names_in m)) ≡ head_lines (take i (names_in m)) ++ model i name ∷ []
  name-more =
      let long : i < length (names_in m) = omega (arith, length-map m.models (λ (n : Named). n.name)) in
      ap (λ ls. title ∷ ls) (numbered-more (λ n. model n.0 n.1) (names_in m) i [] long ∙ ap (λ n. map (λ n. model n.0 n.1) (enumerate_from 0 (take i (names_in m))) ++ model i n ∷ []) (sym named))

head-rest : (names : List (List ℕ)) (i : ℕ) → head_lines names ≡ head_lines (take i names) ++ map (λ n. model n.0 n.1) (enumerate_from (length (take i names)) (drop i names))
head-rest names i = ap (λ ls. title ∷ ls) (numbered-rest (λ n. model n.0 n.1) names i)

pub loop-i-preserved : goal.loop-i-preserved
loop-i-preserved g c =
    let m = c.args.models.now in
    let i = c.loop-i.i in
    has-more (head_lines (take i (names_in m))) _ _ (name-more m i c.name.result.now (omega arith) c.name.ensures.value) c.loop-i.invariant c.in_ok-put_name.ensures

pub returns-in_err-put_name : goal.returns-in_err-put_name
returns-in_err-put_name g c =
    let m = c.args.models.now in
    let i = c.loop-i.i in
    let p = err_from_is_err_and c.from_residual-in_err-put_name.result c.from_residual-in_err-put_name.ensures.1 in
    rw (p.1, p.2)
    (cut-turn (head_lines (take i (names_in m))) _ _ (name-more m i c.name.result.now (omega arith) c.name.ensures.value) c.loop-i.invariant _ _ (head-rest (names_in m) (i + 1)) c.in_err-put_name.ensures)

pub returns-in_err-put_line : goal.returns-in_err-put_line
returns-in_err-put_line g c =
    let p = err_from_is_err_and c.from_residual.result c.from_residual.ensures.1 in
    rw (p.1, p.2) (cut-first (title ∷ []) _ (head_lines (names_in c.args.models.now)) refl c.in_err-put_line.ensures)
