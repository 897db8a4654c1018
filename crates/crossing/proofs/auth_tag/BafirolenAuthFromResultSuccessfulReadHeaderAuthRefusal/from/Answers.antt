use Rattle.std.proofs.Common.{rules}
use Rattle.format.specs.Auth.{zeros}
use Rattle.crossing.proofs.auth_tag.BafirolenAuthFromResultSuccessfulReadHeaderAuthRefusal.from.Goals as goal

pub returns-in-Err : goal.returns-in-Err
unfolding zeros
returns-in-Err c = search rules
