-- `adding::append` meets its contract: the call is written right behind the calls.
use Rattle.ground.specs.BytesLaws.{adds_both}
use Rattle.adding.proofs.append.Goals as goal

pub returns : goal.returns
returns c =
    adds_both c.write_bytes-end.ensures c.write_bytes.ensures
