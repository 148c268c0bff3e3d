use Rattle.std.proofs.Common.{◌≡◌, ◌∙◌, refl, get_or, [], Some}
use Rattle.csv.specs.Records.{fields_of}
use Rattle.telem_csv.proofs.Parts.{field_at-some, mapped_some}
use Rattle.telem_csv.proofs.fields.quoted_field.Goals as goal

pub unwrap-requires : goal.unwrap-requires
unwrap-requires c =
    let m = mapped_some (λ s. s.now) c.get.result (get_or (fields_of c.args.row.now) c.args.place []) (c.get.ensures.value ∙ field_at-some (fields_of c.args.row.now) c.args.place c.requires) in
    rw m.1 refl

pub returns : goal.returns
returns c =
    let e : Some c.unwrap.result.now ≡ Some (get_or (fields_of c.args.row.now) c.args.place []) =
    rw c.unwrap.ensures at (c.get.ensures.value ∙ field_at-some (fields_of c.args.row.now) c.args.place c.requires) in
    cc
