use borrow.Author.Rules.{rules}
use Rattle.host.specs.Reply.{result_fits}
use Rattle.host.proofs.result_fits.Goals as goal

pub enum_known-form : goal.enum_known-form
unfolding result_fits
enum_known-form c = search rules

pub enum_told-1 : goal.enum_told-1
unfolding result_fits
enum_told-1 c = search rules

pub count_fits-requires : goal.count_fits-requires
unfolding result_fits
count_fits-requires c = search rules

pub enum_told-in-WholeParts : goal.enum_told-in-WholeParts
unfolding result_fits
enum_told-in-WholeParts c = search rules

pub is_whole-requires : goal.is_whole-requires
unfolding result_fits
is_whole-requires c = search rules

pub returns-in-Exactly : goal.returns-in-Exactly
unfolding result_fits
returns-in-Exactly c = cc

pub returns-in-Counted : goal.returns-in-Counted
unfolding result_fits
returns-in-Counted c = cc

pub returns-in-WholeParts : goal.returns-in-WholeParts
unfolding result_fits
returns-in-WholeParts c = cc
