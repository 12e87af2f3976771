-- `root::root_pattern` meets its contract. Assumes nothing.
use Rattle.root.proofs.Rounded.{evened, even_pattern}
use Rattle.root.proofs.root_pattern.Goals as goal

pub returns : goal.returns
returns c = even_pattern c.args.m c.args.a _ _ (evened _ _ c.requires.0 c.requires.1 c.requires.2) c.requires.2 c.requires.3 c.whole_root-root.ensures
