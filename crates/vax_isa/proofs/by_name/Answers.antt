use Rattle.std.proofs.Common.{◌≡◌, ◌∙◌, option_map}
use Rattle.vax_isa.specs.Rows.{plain, row_of, with_name, IsFormed}
use Rattle.vax_isa.proofs.Laws.{all_names, only_name, formed_with_name}
use Rattle.vax_isa.proofs.Hashing.{row_named}
use Rattle.vax_isa.proofs.Lists.{IfSome-alike}
use Rattle.vax_isa.proofs.by_name.Goals as goal

pub returns : goal.returns
returns c =
    let listed : option_map plain c.named.result ≡ option_map row_of (with_name c.args.name.now) =
    c.named.ensures ∙ row_named c.slots.result.now c.slots.ensures.listings c.candidates.result.now c.candidates.ensures.bytes c.args.name.now c.candidates.ensures.complete in
    record {
      row = listed;
      only = only_name c.args.name.now;
      names = all_names;
      formed = IfSome-alike plain row_of IsFormed c.named.result (with_name c.args.name.now) listed (formed_with_name c.args.name.now);
    }
