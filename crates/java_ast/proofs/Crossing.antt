-- Which trees may cross threads: the parts of a unit one by one, since a search through all of it
-- gives up.
use Rattle.std.proofs.Crossing.{crosses}
use denote.Param.Send.{IsSend, IsSync, sendable}
use Rattle.hdr_core.proofs.list.List.TheSendSync.{the_send as list_send, the_sync as list_sync}
use Rattle.hdr_core.proofs.text.Text.TheSendSync.{the_send as text_send, the_sync as text_sync}
use Rattle.sqlite_items.proofs.boxed.Boxed.TheSendSync.{the_send as boxed_send}
use Rattle.sqlite_items.proofs.boxed.Boxed.TheSendSync.{the_sync as boxed_sync}
use Rattle.java_ast.proofs.types.ArgTree.TheLaws.TheKnot.{send-TypeTree, sync-TypeTree}
use Rattle.java_ast.proofs.expression.Expr.TheLaws.TheKnot.{send-Expr, sync-Expr}
use Rattle.java_ast.proofs.annotation.ElemTree.TheLaws.TheKnot.{send-AnnTree, sync-AnnTree}
use Rattle.java_ast.proofs.annotation.ElemTree.TheLaws.TheKnot.{send-ElemTree, sync-ElemTree}
use Rattle.java_ast.proofs.declaration.Member.TheLaws.TheKnot.{send-TypeDecl, sync-TypeDecl}
use Rattle.java_ast.specs.contracts.types.TypeTree as TypeTree
use Rattle.java_ast.specs.contracts.expression.Expr as Expr
use Rattle.java_ast.specs.contracts.annotation.AnnTree as AnnTree
use Rattle.java_ast.specs.contracts.annotation.ElemTree as ElemTree
use Rattle.java_ast.specs.contracts.modifiers.Modifiers as Modifiers
use Rattle.java_ast.specs.contracts.member.FieldDecl as FieldDecl
use Rattle.java_ast.specs.contracts.member.Param as Param
use Rattle.java_ast.specs.contracts.member.MethodDecl as MethodDecl
use Rattle.java_ast.specs.contracts.declaration.TypeParam as TypeParam
use Rattle.java_ast.specs.contracts.declaration.EnumConst as EnumConst
use Rattle.java_ast.specs.contracts.declaration.TypeDecl as TypeDecl

ruleset lists = (
  list_send,
  list_sync,
  text_send,
  text_sync,
  boxed_send,
  boxed_sync,
  sendable,
  crosses,
)

type_send : IsSend TypeTree.the_row
type_send = search (send-TypeTree, lists) depth 40 fits 20000

type_field_send : IsSend TypeTree.the_field.row
type_field_send = search (send-TypeTree, lists) depth 40 fits 20000

type_sync : IsSync TypeTree.the_row
type_sync = search (sync-TypeTree, lists) depth 40 fits 20000

type_field_sync : IsSync TypeTree.the_field.row
type_field_sync = search (sync-TypeTree, lists) depth 40 fits 20000

expression_field_send : IsSend Expr.the_field.row
expression_field_send = search (send-Expr, type_field_send, lists) depth 40 fits 20000

expression_field_sync : IsSync Expr.the_field.row
expression_field_sync = search (sync-Expr, type_field_sync, lists) depth 40 fits 20000

annotation_send : IsSend AnnTree.the_row
annotation_send = search (send-AnnTree, expression_field_send, lists) depth 40 fits 20000

annotation_sync : IsSync AnnTree.the_row
annotation_sync = search (sync-AnnTree, expression_field_sync, lists) depth 40 fits 20000

element_send : IsSend ElemTree.the_row
element_send = search (send-ElemTree, expression_field_send, lists) depth 40 fits 20000

element_sync : IsSync ElemTree.the_row
element_sync = search (sync-ElemTree, expression_field_sync, lists) depth 40 fits 20000

modifiers_field_send : IsSend Modifiers.the_field.row
modifiers_field_send = search (annotation_send, lists) depth 40 fits 20000

modifiers_field_sync : IsSync Modifiers.the_field.row
modifiers_field_sync = search (annotation_sync, lists) depth 40 fits 20000

field_field_send : IsSend FieldDecl.the_field.row
field_field_send = search (modifiers_field_send, type_field_send, expression_field_send, lists)
    depth 40 fits 20000

field_field_sync : IsSync FieldDecl.the_field.row
field_field_sync = search (modifiers_field_sync, type_field_sync, expression_field_sync, lists)
    depth 40 fits 20000

param_send : IsSend Param.the_row
param_send = search (modifiers_field_send, type_field_send, lists) depth 40 fits 20000

param_sync : IsSync Param.the_row
param_sync = search (modifiers_field_sync, type_field_sync, lists) depth 40 fits 20000

type_param_send : IsSend TypeParam.the_row
type_param_send = search (type_send, lists) depth 40 fits 20000

type_param_sync : IsSync TypeParam.the_row
type_param_sync = search (type_sync, lists) depth 40 fits 20000

constant_send : IsSend EnumConst.the_row
constant_send = search (annotation_send, lists) depth 40 fits 20000

constant_sync : IsSync EnumConst.the_row
constant_sync = search (annotation_sync, lists) depth 40 fits 20000

method_field_send : IsSend MethodDecl.the_field.row
method_field_send = search (
  modifiers_field_send,
  type_send,
  type_field_send,
  element_send,
  param_send,
  type_param_send,
  lists,
) depth 40 fits 20000

method_field_sync : IsSync MethodDecl.the_field.row
method_field_sync = search (
  modifiers_field_sync,
  type_sync,
  type_field_sync,
  element_sync,
  param_sync,
  type_param_sync,
  lists,
) depth 40 fits 20000

pub declaration_send : IsSend TypeDecl.the_row
declaration_send = search (
  send-TypeDecl,
  modifiers_field_send,
  type_send,
  type_param_send,
  constant_send,
  param_send,
  field_field_send,
  method_field_send,
  lists,
) depth 40 fits 20000

pub declaration_sync : IsSync TypeDecl.the_row
declaration_sync = search (
  sync-TypeDecl,
  modifiers_field_sync,
  type_sync,
  type_param_sync,
  constant_sync,
  param_sync,
  field_field_sync,
  method_field_sync,
  lists,
) depth 40 fits 20000
