use lib.ListN.{length}
use Rattle.request.specs.declared.job.Job.TheVariants.{Path, Pair}
use Rattle.listing.proofs.ListingLaws.{listable-for, names-for}
use Rattle.listing.proofs.list_for.Goals as goal

pub list_path-requires : goal.list_path-requires
list_path-requires c =
    let p = listable-for c.args.sizes c.args.job (Path _ _ _) c.in-Path.is (length c.args.list.now) c.requires in
    record { h_bound = (p.height.1, p.leaves); leaf_in_bounds = p.place }

pub list_pair-requires : goal.list_pair-requires
list_pair-requires c =
    let p = listable-for c.args.sizes c.args.job (Pair _ _ _) c.in-Pair.is (length c.args.list.now) c.requires in
    record { le_h = p.height; first_bound = p.leaves; second_in_bounds = p.place }

pub returns-in-Path : goal.returns-in-Path
returns-in-Path c =
    names-for c.args.sizes c.args.job (Path _ _ _) c.in-Path.is _ _ _ c.list_path.ensures

pub returns-in-Pair : goal.returns-in-Pair
returns-in-Pair c =
    names-for c.args.sizes c.args.job (Pair _ _ _) c.in-Pair.is _ _ _ c.list_pair.ensures
