use Rattle.std.proofs.Common.{[], arith}
use Rattle.gz_client_tests.proofs.driver.Driver.new.Goals as goal

pub returns : goal.returns
returns c = (0, [], c.new-client.ensures.holds 0, omega arith, omega arith)
