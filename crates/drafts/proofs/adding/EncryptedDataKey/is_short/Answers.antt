use Rattle.std.proofs.Common.{arith}
use Rattle.std.proofs.lemmas.Bool.Decides.{nat_tests}
use Rattle.format.specs.Serialize.{every}
use Rattle.drafts.proofs.adding.EncryptedDataKey.is_short.Goals as goal
use Rattle.drafts.proofs.adding.EncryptedDataKey.is_short.Goals.{then-self-le65535, else-self-le65535}

pub returns-then-self-le65535-2 : goal.returns-then-self-le65535-2
unfolding every
returns-then-self-le65535-2 c = elim c.if-self-le65535.branch [ then-self-le65535 w ↦ grind (arith, nat_tests) | else-self-le65535 w ↦ grind (arith, nat_tests) ]

pub returns-else-self-le65535-2 : goal.returns-else-self-le65535-2
unfolding every
returns-else-self-le65535-2 c = elim c.if-self-le65535.branch [ then-self-le65535 w ↦ grind (arith, nat_tests) | else-self-le65535 w ↦ grind (arith, nat_tests) ]
