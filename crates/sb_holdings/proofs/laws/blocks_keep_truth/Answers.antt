use Rattle.std.proofs.Common.{[]}
use Rattle.sb_holdings.proofs.Treating.{treat_step}
use Rattle.sb_holdings.proofs.laws.blocks_keep_truth.Goals as goal

pub returns-clause-holds : goal.returns-clause-holds
returns-clause-holds c = λ writes h b end i is t honest. (treat_step writes h b i is end).holds honest t

pub returns-clause-is : goal.returns-clause-is
returns-clause-is c = λ h b end i is. (treat_step [] h b i is end).is
