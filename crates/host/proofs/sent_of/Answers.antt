use borrow.Author.Rules.{rules}
use Rattle.host.specs.Request.{sent_of}
use Rattle.host.proofs.Building.{as-sent}
use Rattle.host.proofs.sent_of.Goals as goal

pub enum_told-1 : goal.enum_told-1
unfolding sent_of
enum_told-1 c = search rules

pub fields-requires : goal.fields-requires
unfolding sent_of
fields-requires c = search rules

pub enum_known-command : goal.enum_known-command
unfolding sent_of
enum_known-command c = search rules

pub fields-requires-in-ListUse : goal.fields-requires-in-ListUse
unfolding sent_of
fields-requires-in-ListUse c = search rules

pub enum_known-command-in-Create-1 : goal.enum_known-command-in-Create-1
unfolding sent_of
enum_known-command-in-Create-1 c = search rules

pub overflow_cast-kind : goal.overflow_cast-kind
unfolding sent_of
overflow_cast-kind c = search rules

pub fields-requires-in-Create : goal.fields-requires-in-Create
unfolding sent_of
fields-requires-in-Create c = search rules

pub enum_known-command-in-Modify-1 : goal.enum_known-command-in-Modify-1
unfolding sent_of
enum_known-command-in-Modify-1 c = search rules

pub overflow_cast-kind-in-Modify : goal.overflow_cast-kind-in-Modify
unfolding sent_of
overflow_cast-kind-in-Modify c = search rules

pub fields-requires-in-Modify : goal.fields-requires-in-Modify
unfolding sent_of
fields-requires-in-Modify c = search rules

pub enum_known-command-in-Query-1 : goal.enum_known-command-in-Query-1
unfolding sent_of
enum_known-command-in-Query-1 c = search rules

pub fields-requires-in-Query : goal.fields-requires-in-Query
unfolding sent_of
fields-requires-in-Query c = search rules

pub enum_known-command-in-Destroy-1 : goal.enum_known-command-in-Destroy-1
unfolding sent_of
enum_known-command-in-Destroy-1 c = search rules

pub fields-requires-in-Destroy : goal.fields-requires-in-Destroy
unfolding sent_of
fields-requires-in-Destroy c = search rules

pub enum_known-command-in-Metadata-1 : goal.enum_known-command-in-Metadata-1
unfolding sent_of
enum_known-command-in-Metadata-1 c = search rules

pub overflow_cast-what : goal.overflow_cast-what
unfolding sent_of
overflow_cast-what c = search rules

pub fields-requires-in-Metadata : goal.fields-requires-in-Metadata
unfolding sent_of
fields-requires-in-Metadata c = search rules

pub enum_known-command-in-Get-1 : goal.enum_known-command-in-Get-1
unfolding sent_of
enum_known-command-in-Get-1 c = search rules

pub overflow_cast-which : goal.overflow_cast-which
unfolding sent_of
overflow_cast-which c = search rules

pub fields-requires-in-Get : goal.fields-requires-in-Get
unfolding sent_of
fields-requires-in-Get c = search rules

pub enum_known-command-in-Set-1 : goal.enum_known-command-in-Set-1
unfolding sent_of
enum_known-command-in-Set-1 c = search rules

pub fields-requires-in-Set : goal.fields-requires-in-Set
unfolding sent_of
fields-requires-in-Set c = search rules

pub enum_known-command-in-SetMode-1 : goal.enum_known-command-in-SetMode-1
unfolding sent_of
enum_known-command-in-SetMode-1 c = search rules

pub overflow_cast-mode : goal.overflow_cast-mode
unfolding sent_of
overflow_cast-mode c = search rules

pub fields-requires-in-SetMode : goal.fields-requires-in-SetMode
unfolding sent_of
fields-requires-in-SetMode c = search rules

pub returns-in-ListQuery : goal.returns-in-ListQuery
unfolding sent_of
returns-in-ListQuery c = search (rules, as-sent)

pub returns-in-ListUse : goal.returns-in-ListUse
unfolding sent_of
returns-in-ListUse c = search (rules, as-sent)

pub returns-in-Create : goal.returns-in-Create
unfolding sent_of
returns-in-Create c = search (rules, as-sent)

pub returns-in-Modify : goal.returns-in-Modify
unfolding sent_of
returns-in-Modify c = search (rules, as-sent)

pub returns-in-Query : goal.returns-in-Query
unfolding sent_of
returns-in-Query c = search (rules, as-sent)

pub returns-in-Destroy : goal.returns-in-Destroy
unfolding sent_of
returns-in-Destroy c = search (rules, as-sent)

pub returns-in-Metadata : goal.returns-in-Metadata
unfolding sent_of
returns-in-Metadata c = search (rules, as-sent)

pub returns-in-Get : goal.returns-in-Get
unfolding sent_of
returns-in-Get c = search (rules, as-sent)

pub returns-in-Set : goal.returns-in-Set
unfolding sent_of
returns-in-Set c = search (rules, as-sent)

pub returns-in-SetMode : goal.returns-in-SetMode
unfolding sent_of
returns-in-SetMode c = search (rules, as-sent)
